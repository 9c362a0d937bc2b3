-- `send`, `send_by` and `send_from` send flow from a node on: what each sends, the laws of `Sends` add up. The ring
-- falls.
use Rattle.std.proofs.Common.{◌+◌, ◌*◌}
use Rattle.network.specs.declared.Network.{Network}
use Rattle.max_flow.specs.code.Ends.{OfNetwork}
use Rattle.max_flow.specs.code.Residuals.{Balanced}
use Rattle.max_flow.specs.code.Sender.{SendsLoad}
use Rattle.max_flow.proofs.send.Sender.+send_send_by_send_from.Given as goal

abbrev pub decreases-send : goal.decreases-send
decreases-send l = 3 * l.load.ring + 2

abbrev pub decreases-send_by : goal.decreases-send_by
decreases-send_by l = 3 * l.load.ring + 1

abbrev pub decreases-send_from : goal.decreases-send_from
decreases-send_from l = 3 * l.load.ring

abbrev pub invariant-send-loop : goal.invariant-send-loop
invariant-send-loop l =
    (net : Network)
    → OfNetwork net l.fn.self.ends.now
    → Balanced net l.initial.flow.residual
    → SendsLoad net l.fn.self l.load l.sent l.initial.flow.residual l.flow.residual
