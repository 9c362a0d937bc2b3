-- `push` meets its contract: at place i the amount is sent from there to the node reached last. Places fall.
use Rattle.std.proofs.Common.{ℕ}
use Rattle.network.specs.declared.Network.{Network}
use Rattle.max_flow.specs.code.Push.{Sending, Half}
use Rattle.max_flow.proofs.augment.push.Given as goal

abbrev pub invariant-loop-i : goal.invariant-loop-i
invariant-loop-i l =
    (net : Network) (s : ℕ)
    → Sending net s l.initial.left l.tree l.d
    → Half net l.initial.left l.tree l.d l.i l.left

abbrev pub decreases-loop-i : goal.decreases-loop-i
decreases-loop-i l = l.i
