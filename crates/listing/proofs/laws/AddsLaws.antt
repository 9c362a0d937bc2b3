-- What the writer of a listing adds, one piece behind another.
use Rattle.std.specs.Prelude.{◌≡◌, ℕ, ◌+◌, ◌-◌, ◌≤◌, List, ◌++◌, length, take, drop}
use Rattle.std.proofs.Common.{◌∙◌, arith, append_assoc, drop-drop, length-append}
use Rattle.std.proofs.lemmas.Grind.{common_steps}
use Rattle.std.proofs.lemmas.List.Edits.{sets, sets-eq}
use borrow.Rule.Slice.PartMut.{put_mid}
use Rattle.base.proofs.laws.PutsLaws.{puts_length, puts_then, puts_same}
use Rattle.listing.specs.code.Adds.{Adds, Room}
use Rattle.listing.specs.declared.line.Lines.{Lines}

-- a part that is copied over
pub put_mid_is : (i : ℕ) (ys xs : List ℕ) → i + length ys ≤ length xs
    → put_mid i (i + length ys - i) xs ys ≡ sets xs i ys
put_mid_is i ys xs b =
    let e : i + length ys - i ≡ length ys = omega arith in
    rw (e, sets-eq ys xs i b, drop-drop (length ys) i xs, append_assoc)

-- a front of the rest that is written over
pub put_end_is : (i : ℕ) (ys xs : List ℕ) → i + length ys ≤ length xs
    → put_mid i (length xs - i) xs (ys ++ drop (length ys) (take (length xs - i) (drop i xs))) ≡ sets xs i ys
put_end_is i ys xs b = let s = sets-eq ys xs i b in grind (arith, common_steps, s)

pub adds_then : {l m n : Lines} {xs ys : List ℕ} → Adds l xs m → Adds m ys n → Adds l (xs ++ ys) n
adds_then p q = record { same = q.same ∙ p.same; puts = puts_then p.puts q.puts }

-- the same values, said otherwise
pub adds_same : {l m : Lines} {xs ys : List ℕ} → xs ≡ ys → Adds l xs m → Adds l ys m
adds_same e p = record { same = p.same; puts = puts_same e p.puts }

-- where both pieces have room, the second has it behind the first
pub room_then : {l m : Lines} {xs : List ℕ} (ys : List ℕ) → Room l (xs ++ ys) → Adds l xs m → Room m ys
room_then {xs} ys r p = omega (arith, length-append xs ys, p.puts.next_is, puts_length p.puts)
