-- `tree_lines` meets its contract. At the head of a turn the lines of nodes 1 to i - 1 stand.
use Rattle.std.proofs.Common.{◌-◌, ◌≤◌}
use Rattle.listing.specs.Listing.{tree_lines}
use Rattle.listing.specs.code.Adds.{Adds}
use Rattle.listing.proofs.line.Lines.tree_lines.Given as goal

abbrev pub invariant-loop-i : goal.invariant-loop-i
invariant-loop-i l =
    record { within : l.i - 1 ≤ l.nodes - 1; stands : Adds l.initial.self (tree_lines l.tree (l.i - 1)) l.self }
