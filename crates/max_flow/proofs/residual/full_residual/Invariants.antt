-- `full_residual` gives each link that has come its capacity each way.
use Rattle.std.proofs.Common.{◌≡◌}
use Rattle.network.proofs.laws.EachLink.{Numbered}
use Rattle.max_flow.specs.code.Residuals.{full_up_to}
use Rattle.max_flow.proofs.residual.full_residual.Given as goal

abbrev pub invariant-loop-k : goal.invariant-loop-k
invariant-loop-k l =
    record {
      numbered : Numbered l.fn.net l.k-iterator;
      full : l.residual ≡ full_up_to l.fn.net.network l.k-iterator.iter.come;
    }
