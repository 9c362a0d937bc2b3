-- What a pair's answer has to be, whatever tree it comes from.
use Rattle.std.specs.Prelude.{◌≡◌, Bool, true, false, List, ℕ, ◌+◌, ◌≤◌}
use Rattle.min_cut.specs.Cut.{Side}
use Rattle.base.specs.Basics.{differ, at}
use Rattle.node_set.specs.Set.{complement_in, size}
use Rattle.base.specs.Word.{holds}
use Rattle.network.specs.Network.{value_of}
use Rattle.network.specs.declared.Network.{Network}
use Rattle.cut_tree.specs.Path.{on_path, number_of, weight_of, node_of, side_in, size_of}
use Rattle.cut_tree.specs.Definition1.{Lightest}
use Rattle.cut_tree.specs.declared.Tree.{Tree}
use Rattle.cut_tree.specs.Path.{PairAnswer}

-- found; its side holds s and not t and has its weight as value; no side that separates s and t has a smaller one
pub record MinimumAnswer (net : Network) (s t : ℕ) (r : PairAnswer) : Type 0 where
  pub found : number_of r ≡ 0
  pub inside : holds (side_in r) s ≡ true
  pub outside : holds (side_in r) t ≡ false
  pub value : value_of net (holds (side_in r)) ≡ weight_of r
  pub least : (X : Side) → differ (X s) (X t) ≡ true → weight_of r ≤ value_of net X
  -- how many of the nodes the side holds
  pub counted : size_of r ≡ size net.nodes (side_in r)

-- v is one of the edges, none is lighter, and none as light has a lower number. There is only one, whatever order the
-- edges are met in (`one_lightest`)
pub record LowestLightest (weight : List ℕ) (edges : ℕ → Bool) (v : ℕ) : Type 0 where
  pub lightest : Lightest weight edges v
  pub lowest : (u : ℕ) → edges u ≡ true → at weight u ≡ at weight v → v ≤ u

-- its node's edge is that of the path between s and t, and its weight is the edge's
pub record LightestAnswer (tree : Tree) (s t : ℕ) (r : PairAnswer) : Type 0 where
  pub edge : LowestLightest tree.weight (on_path tree.parent s t) (node_of r)
  pub weight : weight_of r ≡ at tree.weight (node_of r)

-- r from one end and q from the other, among n nodes: refused alike; else the same weight and node, the other side, and
-- sizes that add up to n
pub record BothEnds (n : ℕ) (r q : PairAnswer) : Type 0 where
  pub number : number_of q ≡ number_of r
  pub weight : weight_of q ≡ weight_of r
  pub node : node_of q ≡ node_of r
  pub sides : number_of r ≡ 0 → side_in q ≡ complement_in n (side_in r)
  pub sizes : number_of r ≡ 0 → size_of r + size_of q ≡ n
