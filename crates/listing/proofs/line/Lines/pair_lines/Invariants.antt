-- `pair_lines` meets its contract. At the head of a turn the lines of nodes 0 to s - 1 stand.
use Rattle.listing.specs.Listing.{pair_lines}
use Rattle.listing.specs.code.Adds.{Adds}
use Rattle.listing.proofs.line.Lines.pair_lines.Given as goal

abbrev pub invariant-loop-s : goal.invariant-loop-s
invariant-loop-s l = Adds l.initial.self (pair_lines l.p l.s) l.self
