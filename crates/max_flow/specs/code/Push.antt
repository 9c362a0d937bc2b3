-- Flow sent along the tree, from the node reached last back to the first: what the loop over the path keeps, and what
-- is sent at its end.
use Rattle.std.specs.Prelude.{◌≡◌, true, List, ℕ, ◌-◌, ◌<◌, ◌≤◌}
use Rattle.min_cut.specs.code.Residual.{Pushed}
use Rattle.base.specs.Basics.{at}
use Rattle.network.specs.Limits.{max_nodes, max_arcs}
use Rattle.network.specs.Network.{network_fits, graph}
use Rattle.network.specs.declared.Network.{Network}
use Rattle.max_flow.specs.GrowingFlow.{ahead, back}
use Rattle.max_flow.specs.code.Residuals.{room_on, Balanced, Along}
use Rattle.max_flow.specs.code.Search.{TreeFrom}
use Rattle.max_flow.specs.declared.search.SearchTree.{SearchTree}

-- a tree from s over the residual capacities r, along which d can be sent to the node reached last
pub record Sending (net : Network) (s : ℕ) (r : List (List ℕ)) (w : SearchTree) (d : ℕ) : Type 0 where
  pub fits : network_fits net ≡ true
  pub balanced : Balanced net r
  pub tree : TreeFrom net r s w
  pub amount : d ≤ at w.bottleneck (w.count - 1)

-- on the way, at place i: d is sent from there to the node reached last. What lies before has the room that the search
-- found.
pub record Half (net : Network) (r : List (List ℕ)) (w : SearchTree) (d i : ℕ) (r' : List (List ℕ)) : Type 0 where
  pub pushed : Pushed (graph net) (at w.node i) (at w.node (w.count - 1)) d (ahead r) (back r)
      (ahead r') (back r')
  pub balanced : Balanced net r'
  pub here : i < w.count
  pub enough : d ≤ at w.bottleneck i
  pub fits : (j : ℕ) → 0 < j → j ≤ i → at w.bottleneck j ≤ room_on r' (at w.arc j)

-- what the code asks at place i
pub record OnPath (net : Network) (w : SearchTree) (d i : ℕ) (r' : List (List ℕ)) : Type 0 where
  pub place : i < max_nodes
  pub arc : at w.arc i < max_arcs
  pub earlier : at w.from i < i
  pub tail : at w.node (at w.from i) < max_nodes
  pub tip : at w.node i < max_nodes
  pub along : Along net r' (at w.arc i) d
