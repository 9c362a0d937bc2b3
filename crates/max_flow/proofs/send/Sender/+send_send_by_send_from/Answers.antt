-- `send`, `send_by` and `send_from` send flow from a node on: what each sends, the laws of `Sends` add up. The ring
-- falls.
use Rattle.std.proofs.Common.{refl, ℕ}
use Rattle.network.specs.declared.Network.{Network}
use Rattle.max_flow.specs.code.Ends.{OfNetwork}
use Rattle.max_flow.specs.code.Residuals.{Balanced}
use Rattle.max_flow.proofs.laws.ResidualLaws.{may_send}
use Rattle.max_flow.proofs.code.Send.{Way, way, send_more, send_along, send_way}
use Rattle.max_flow.proofs.send.Sender.+send_send_by_send_from.Goals as goal
use Rattle.max_flow.proofs.send.Sender.+send_send_by_send_from.Goals.{send_by-After-room-spare}

-- what is sent in the turn that an arc is tried in, with what was sent before it
pub send-returns-then-sent-load : goal.send-returns-then-sent-load
send-returns-then-sent-load t c =
    λ net a b.
    let l = c.loop.invariant net a b in
    send_more b l (c.send_by-d.ensures net a l.sent.balanced) refl

pub send-loop-preserved : goal.send-loop-preserved
send-loop-preserved t c =
    λ net a b.
    let l = c.loop.invariant net a b in
    send_more b l (c.send_by-d.ensures net a l.sent.balanced) refl

-- the step leads on, by an arc with room
onward : {t : ℕ} (c : send_by-After-room-spare t) (net : Network)
    → OfNetwork net c.args.self.ends.now
    → Balanced net c.args.flow.now.residual
    → Way net c.args.flow.now.residual c.args.load.on c.args.load.node c.args.step.node
    c.args.step.arc c.room-spare.result
onward c net a b =
    way c.args.self c.args.load c.args.step a b (c.leads_on.ensures c.if-not-leads_on.false)
    c.room-spare.ensures c.requires.has_room

pub send_by-along-requires : goal.send_by-along-requires
send_by-along-requires t c =
    let (net, a, b) = c.requires.balanced in
    may_send (send_along c.args.load.limit a.ready.ends.fits b
    (onward (goal.at.send_by-along-requires t c).After-room-spare net a b) c.min-want.ensures c.add.ensures
    (c.send_from-d.ensures net a b))

pub send_by-returns : goal.send_by-returns
send_by-returns t c =
    λ net a b.
    rw c.along.ensures
    (send_way c.args.load.limit a.ready.ends.fits b
    (onward (goal.at.send_by-returns t c).After-room-spare net a b) c.min-want.ensures c.add.ensures
    (c.send_from-d.ensures net a b))
