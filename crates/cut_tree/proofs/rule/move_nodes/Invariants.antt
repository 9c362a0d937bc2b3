-- The nodes still to go, moved, give what all of them give.
use Rattle.std.proofs.Common.{◌≡◌}
use Rattle.cut_tree.specs.Rule.{moved}
use Rattle.cut_tree.proofs.rule.move_nodes.Given as goal

abbrev pub invariant-loop-i : goal.invariant-loop-i
invariant-loop-i l = moved l.i-iterator.rest l.s l.t 0 l.parent ≡ moved l.x l.s l.t 0 l.initial.parent
