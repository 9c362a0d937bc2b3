-- `write_flow` writes what each link carries.
use Rattle.std.proofs.Common.{◌≡◌}
use Rattle.max_flow.specs.code.LinkFlows.{link_flows_up_to}
use Rattle.max_flow.proofs.flows.write_flow.Given as goal

abbrev pub invariant-loop-k : goal.invariant-loop-k
invariant-loop-k l = l.out ≡ link_flows_up_to l.full l.residual l.initial.out l.k
