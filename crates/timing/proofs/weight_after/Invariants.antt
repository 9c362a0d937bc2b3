-- `timing::weight_after` meets its contract. The loop's invariant: `weight` is that after the rounds so far.
use Rattle.std.proofs.Common.{◌≡◌}
use Rattle.timing.specs.Timing.{weight_after}
use Rattle.timing.proofs.weight_after.Given as goal

abbrev pub invariant-loop : goal.invariant-loop
invariant-loop l = l.weight ≡ weight_after l.net.network l.counter
