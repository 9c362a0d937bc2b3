-- `full_residual` gives each link that has come its capacity each way.
use Rattle.std.proofs.Common.{add-one}
use Rattle.network.proofs.laws.EachLink.{turns}
use Rattle.max_flow.specs.code.Residuals.{full_up_to}
use Rattle.max_flow.proofs.residual.full_residual.Goals as goal

pub loop-k-preserved : goal.loop-k-preserved
unfolding full_up_to
loop-k-preserved c =
    let o = c.loop-k.invariant in
    let turn = turns o.numbered c.in-Some.ensures.steps in
    record { numbered = turn.next; full = rw (turn.come, add-one, turn.place, turn.is.same, o.full) }
