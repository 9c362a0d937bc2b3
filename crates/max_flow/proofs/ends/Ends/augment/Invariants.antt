-- `augment` meets its contract: at every turn `total` is that of the flow which the residual capacities hold, and it is
-- at most `max_value`.
use Rattle.std.proofs.Common.{◌≡◌, ◌-◌}
use Rattle.network.specs.Limits.{max_value}
use Rattle.network.specs.declared.Network.{Network}
use Rattle.max_flow.specs.code.Ends.{OfNetwork}
use Rattle.max_flow.specs.code.Residuals.{Flowing}
use Rattle.max_flow.proofs.ends.Ends.augment.Given as goal

abbrev pub invariant-loop-flow : goal.invariant-loop-flow
invariant-loop-flow l =
    (l.out ≡ l.initial.out)
    × ((net : Network) → OfNetwork net l.self → Flowing net l.self.s l.self.t l.total l.flow.residual)

abbrev pub decreases-loop-flow : goal.decreases-loop-flow
decreases-loop-flow l = max_value - l.total
