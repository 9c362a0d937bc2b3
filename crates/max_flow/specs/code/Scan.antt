-- What the loops of the search keep: the one over the places of the tree, and the one over a node's own arcs.
use Rattle.std.specs.Prelude.{◌≡◌, true, false, List, [], ℕ, ◌*◌, ◌/◌, ◌%◌, ◌<◌, ◌≤◌, get_or, min}
use Rattle.base.specs.Word.{holds}
use Rattle.min_cut.specs.code.Arcs.{tail, tip}
use Rattle.base.specs.Basics.{at}
use Rattle.network.specs.Limits.{max_nodes, max_arcs}
use Rattle.network.specs.Network.{graph}
use Rattle.network.specs.code.ArcLinks.{entry_at}
use Rattle.network.specs.code.Incidence.{Leaves}
use Rattle.network.specs.declared.Network.{Network}
use Rattle.network.specs.declared.arc_link.ArcLink.{ArcLink}
use Rattle.max_flow.specs.code.Residuals.{room_on}
use Rattle.max_flow.specs.code.Search.{grown, TreeFrom}
use Rattle.max_flow.specs.declared.search.SearchTree.{SearchTree}

-- each arc of u from e on that has room leads to a node that is reached
abbrev pub Done : Network → List (List ℕ) → SearchTree → (u e : ℕ) → Type 0
Done net r w u e =
    (j : ℕ) → j < 2 * net.links → e ≤ j → tail (graph net) j ≡ u → 0 < room_on r j
    → holds w.reached (tip (graph net) j) ≡ true

-- t is not reached, and the places before i are done
pub record Outer (net : Network) (r : List (List ℕ)) (s t : ℕ) (w : SearchTree) (i : ℕ) : Type 0 where
  pub tree : TreeFrom net r s w
  pub missed : holds w.reached t ≡ false
  pub behind : (k : ℕ) → k < i → Done net r w (at w.node k) 0

-- and at i, where u stands, the arcs from e on are done
pub record Inner (net : Network) (r : List (List ℕ)) (s t : ℕ) (w : SearchTree) (i u e : ℕ) : Type 0 where
  pub outer : Outer net r s t w i
  pub here : i < w.count
  pub node : at w.node i ≡ u
  pub chain : Leaves net u (2 * net.links) e
  pub done : Done net r w u e

-- what the code relies on at a place of the tree
pub record Placed (w : SearchTree) (i : ℕ) : Type 0 where
  pub place : i < max_nodes
  pub node : at w.node i < max_nodes

-- what the code relies on at arc j of the node at place i
pub record Looking (next : List ArcLink) (to : List ℕ) (w : SearchTree) (i j : ℕ) : Type 0 where
  pub arc : j < max_arcs
  pub node : at to j < max_nodes
  pub place : i < max_nodes
  pub free : holds w.reached (at to j) ≡ false → w.count < max_nodes
  pub falls : entry_at next j ≤ j

-- arc j leads to a new node, and w' is the tree with it
pub record Fresh (to : List ℕ) (r : List (List ℕ)) (w : SearchTree) (i j : ℕ) (w' : SearchTree) : Type 0 where
  pub amount : ℕ
  pub most : amount ≡ min (get_or (get_or r (j / 2) []) (j % 2) 0) (at w.bottleneck i)
  pub some : 0 < get_or (get_or r (j / 2) []) (j % 2) 0
  pub new : holds w.reached (at to j) ≡ false
  pub tree : w' ≡ grown w i j (at to j) amount
