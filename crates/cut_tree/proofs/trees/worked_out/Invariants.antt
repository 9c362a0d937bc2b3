-- The loop has steps 1 to s - 1.
use Rattle.cut_tree.proofs.laws.LoopLaws.{Going}
use Rattle.cut_tree.proofs.trees.worked_out.Given as goal

abbrev pub invariant-loop-s : goal.invariant-loop-s
invariant-loop-s g l =
    Going l.fn.net.network (goal.F-post g l.kept) (record { tree = l.tree; steps = l.steps; count = l.count }) l.s
