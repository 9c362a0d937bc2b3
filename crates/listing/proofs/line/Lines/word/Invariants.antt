-- `word` meets its contract. What is still to be put is the word from one byte on.
use Rattle.std.proofs.Common.{◌≡◌, drop}
use Rattle.base.proofs.laws.PutsLaws.{Owing}
use Rattle.listing.proofs.line.Lines.word.Given as goal

abbrev pub invariant-loop-byte : goal.invariant-loop-byte
invariant-loop-byte l =
    let before = l.initial.self in
    record {
      same : l.self.out.ghost_name ≡ before.out.ghost_name;
      owing : Owing before.out.now before.place l.word l.next (drop l.byte-index l.word) l.self.out.now;
    }
