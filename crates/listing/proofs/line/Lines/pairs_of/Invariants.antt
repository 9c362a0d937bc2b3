-- `pairs_of` meets its contract. At the head of a turn the lines of s with s + 1 to t - 1 stand.
use Rattle.std.proofs.Common.{suc, ◌-◌}
use Rattle.listing.specs.Listing.{pairs_of}
use Rattle.listing.specs.code.Adds.{Adds}
use Rattle.listing.proofs.line.Lines.pairs_of.Given as goal

abbrev pub invariant-loop-t : goal.invariant-loop-t
invariant-loop-t l = Adds l.initial.self (pairs_of l.p l.s (l.t - suc l.s)) l.self
