-- `number` meets its contract.
use Rattle.std.specs.Prelude.{ℕ, ◌+◌, ◌-◌, ◌≤◌, ◌≡◌, List, ◌++◌, length, take, drop}
use Rattle.std.proofs.Common.{refl, arith}
use Rattle.std.proofs.lemmas.List.Edits.{sets}
use borrow.Rule.Slice.PartMut.{put_mid}
use Rattle.text.specs.Text.{decimal}
use Rattle.listing.proofs.laws.AddsLaws.{put_end_is}
use Rattle.listing.proofs.line.Lines.number.Goals as goal

-- a front of the rest from a place on, which is place i
put_at : {k : ℕ} (i : ℕ) (ys xs : List ℕ) → k ≡ i → i + length ys ≤ length xs
    → put_mid k (length xs - k) xs (ys ++ drop (length ys) (take (length xs - k) (drop k xs))) ≡ sets xs i ys
put_at i ys xs e b = rw e (put_end_is i ys xs b)

pub returns : goal.returns
returns c = let lines = c.args.self.now in let put = c.put_decimal.ensures in record {
  same = refl;
  puts = record {
    next_is = omega (arith, put.size);
    after_is = rw put.written (put_at lines.place (decimal c.args.number) lines.out.now (omega arith) c.requires);
  };
}
