-- `send_all` raises the total by what each phase sends: it stays that of the flow. There are no more phases than nodes.
use Rattle.std.proofs.Common.{◌≤◌}
use Rattle.network.specs.declared.Network.{Network}
use Rattle.max_flow.specs.code.Ends.{OfNetwork}
use Rattle.max_flow.specs.code.Residuals.{Flowing}
use Rattle.max_flow.proofs.ends.Ends.send_all.Given as goal

abbrev pub invariant-loop : goal.invariant-loop
invariant-loop l =
    (l.total ≤ l.raised)
    × ((net : Network)
    → OfNetwork net l.fn.self
    → Flowing net l.fn.self.s l.fn.self.t l.total l.initial.flow.residual
    → Flowing net l.fn.self.s l.fn.self.t l.raised l.flow.residual)
