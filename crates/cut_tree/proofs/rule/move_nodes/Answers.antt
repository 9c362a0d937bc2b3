-- The nodes still to go, moved, give what all of them give.
use Rattle.cut_tree.proofs.laws.StepLaws.{moving_next, moving_end}
use Rattle.cut_tree.proofs.rule.move_nodes.Goals as goal

pub loop-i-preserved : goal.loop-i-preserved
loop-i-preserved c =
    let turn = c.in-Some.ensures.steps in
    moving_next c.loop-i.parent _ _ _ _ _ _ _ turn.0.here c.moved_one.ensures turn.1 c.loop-i.invariant

pub returns : goal.returns
returns c = moving_end _ _ _ _ _ c.in-None.ensures.steps.0 c.loop-i.invariant
