-- `send_all` raises the total by what each phase sends: it stays that of the flow. There are no more phases than nodes.
use Rattle.std.proofs.Common.{◌+◌, arith}
use Rattle.network.specs.declared.Network.{Network}
use Rattle.max_flow.proofs.code.Augment.{flow_le}
use Rattle.max_flow.specs.code.Ends.{OfNetwork}
use Rattle.max_flow.specs.code.Residuals.{Flowing}
use Rattle.max_flow.proofs.laws.GrowthLaws.{flow_raised}
use Rattle.max_flow.proofs.ends.Ends.send_all.Goals as goal
use Rattle.max_flow.proofs.ends.Ends.send_all.Goals.{After-send-d}

pub send-d-requires : goal.send-d-requires
send-d-requires c =
    let p = c.requires in
    (p.0, p.1, (c.loop.invariant.1 p.0 p.1 p.2).balanced)

-- the flow after one phase more, and its total
phase : (c : After-send-d) (net : Network)
    → OfNetwork net c.args.self.now
    → Flowing net c.args.self.now.s c.args.self.now.t c.args.total c.args.flow.now.residual
    → Flowing net c.args.self.now.s c.args.self.now.t (c.loop.raised + c.send-d.result)
    c.send-d.new.flow.residual
phase c net a f =
    let g = c.loop.invariant.1 net a f in
    flow_raised a.ready.ends.apart g (c.send-d.ensures net a g.balanced).sent

pub overflow_add-raised : goal.overflow_add-raised
overflow_add-raised c =
    let p = c.requires in
    omega (arith, flow_le p.1.ready.ends (phase (goal.at.overflow_add-raised c).After-send-d p.0 p.1 p.2))

pub loop-preserved : goal.loop-preserved
loop-preserved c = (omega arith, phase (goal.at.loop-preserved c).After-send-d)
