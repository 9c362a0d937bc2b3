-- `search` meets its contract. Over the places: those before i are done. Over a node's arcs: those that have come are
-- done. Each turn over the places ends one; a chain of arcs falls.
use Rattle.std.proofs.Common.{◌-◌}
use Rattle.network.specs.Limits.{max_nodes}
use Rattle.network.specs.code.ArcLinks.{arc_of, entry}
use Rattle.network.specs.declared.Network.{Network}
use Rattle.max_flow.specs.code.Ends.{OfNetwork}
use Rattle.max_flow.specs.code.Scan.{Outer, Inner}
use Rattle.max_flow.proofs.ends.Ends.search.Given as goal

abbrev pub invariant-loop-j : goal.invariant-loop-j
invariant-loop-j l =
    (net : Network)
    → OfNetwork net l.self
    → Inner net l.residual l.self.s l.self.t l.tree l.i l.u (entry (arc_of l.link))

abbrev pub decreases-loop-j : goal.decreases-loop-j
decreases-loop-j l = entry (arc_of l.link)

abbrev pub invariant-search : goal.invariant-search
invariant-search l =
    (net : Network)
    → OfNetwork net l.self
    → Outer net l.residual l.self.s l.self.t l.tree l.i

abbrev pub decreases-search : goal.decreases-search
decreases-search l = max_nodes - l.i
