-- `start` notes a way each way along the links that have come.
use Rattle.std.proofs.Common.{◌≡◌}
use Rattle.network.proofs.laws.EachLink.{Gives}
use Rattle.flow_hints.specs.code.Hints.{hints_up_to}
use Rattle.flow_hints.proofs.hints.Hints.start.Given as goal

abbrev pub invariant-loop-link : goal.invariant-loop-link
invariant-loop-link l =
    record {
      given : Gives l.fn.net l.link-iterator;
      noted : l.hints ≡ hints_up_to l.fn.net.network l.link-iterator.come;
    }
