-- "Its lightest tree edge: the house from 1 up with the lightest weight, lowest number among equals, and that weight;
-- both 0 with one house": what a plan holds. And what it stands for: the network's own minimum cut.
use Rattle.std.specs.Prelude.{ℕ, ◌≤◌, ◌<◌, ◌≡◌, Bool, true, false, ◌&&◌, List, [], ◌∷◌, ltb, eqb}
use Rattle.base.specs.Basics.{pick, at, every}
use Rattle.min_cut.specs.Cut.{Side}
use Rattle.network.specs.Network.{value_of}
use Rattle.network.specs.declared.Network.{Network}
use Rattle.cut_tree.specs.Path.{lightest_of}
use Rattle.cut_tree.specs.declared.Edge.{Edge}
use Rattle.cut_tree.specs.declared.Tree.{Tree}

-- the edges of a tree of n nodes: those of the nodes from 1 up
abbrev pub edges_of : ℕ → ℕ → Bool
edges_of n v = ltb 0 v && ltb v n

abbrev pub no_edge : Edge
no_edge = record { node = 0; weight = 0 }

-- the lightest of them by these weights, with the tie of `lightest_of`; one node has none
unfoldable pub lightest_among : ℕ → List ℕ → Edge
lightest_among n weight =
    let v = lightest_of weight (edges_of n) in
    pick (ltb 1 n) (record { node = v; weight = at weight v }) no_edge

abbrev pub lightest_edge : ℕ → Tree → Edge
lightest_edge n tree = lightest_among n tree.weight

-- two edges have the same node and weight
abbrev pub equal_edges : Edge → Edge → Bool
equal_edges x y = every (eqb x.node y.node ∷ eqb x.weight y.weight ∷ [])

-- neither empty nor all of the n nodes
pub record Proper (n : ℕ) (X : Side) : Type 0 where
  pub holds_one : (i : ℕ) × (i < n) × (X i ≡ true)
  pub lacks_one : (i : ℕ) × (i < n) × (X i ≡ false)

-- w is the value of the network's own minimum cut: some such side has it, and none has a smaller one
pub record NetworkCut (net : Network) (w : ℕ) : Type 0 where
  pub side : (X : Side) × Proper net.nodes X × (value_of net X ≡ w)
  pub least : (X : Side) → Proper net.nodes X → w ≤ value_of net X
