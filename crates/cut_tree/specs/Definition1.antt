-- Definition 1 of source document 001: what a cut tree T of a network G is. It is said here of every network, zero
-- capacities and unconnected ones included; with T as a network of its own, its cuts and flows are those of any
-- network.
-- "A tree having the same set of vertices V and an edge set F with a capacity function c' having the following two
-- properties: (a) Equivalent flow tree: for any pair of vertices s and t, f_{s,t} in G is equal to the smallest
-- capacity (with c') of the edges on the path between s and t in T, i.e., to the value of the maximum flow between s
-- and t in T;
-- (b) Cut property: if a proper subset of V is a minimum cut separating s and t in T, it is also a minimum cut
-- separating s and t in G."
use Rattle.std.specs.Prelude.{ℕ, suc, ◌-◌, ◌≤◌, ◌<◌, ◌≡◌, ◌≢◌, Bool, true, List, ℤ}
use Rattle.min_cut.specs.Cut.{Net, Side, cut_value, MinCut}
use Rattle.min_cut.specs.Lawful.{MaximumFlow}
use Rattle.base.specs.Basics.{at}
use Rattle.network.specs.Network.{graph, value_of}
use Rattle.network.specs.declared.Network.{Network}
use Rattle.cut_tree.specs.Path.{reaches, on_path, lightest_on, under}
use Rattle.cut_tree.specs.declared.Tree.{Tree}

-- T: the n - 1 tree edges as links, one from each node but 0 to its parent
abbrev pub tree_net : ℕ → Tree → Net
tree_net n tree = record { m = n - 1; a = suc; b = λ k. at tree.parent (suc k); c = λ k. at tree.weight (suc k) }

-- v is the value of a maximum flow from s to t, and of a minimum cut between them
pub record FlowValue (G : Net) (n s t v : ℕ) : Type 0 where
  pub flow : (f : ℕ → ℤ) × MaximumFlow G n s t v f
  pub cut : (X : Side) × MinCut G s t X × (cut_value G X ≡ v)

-- v is one of the edges, and none has a smaller weight
pub record Lightest (weight : List ℕ) (edges : ℕ → Bool) (v : ℕ) : Type 0 where
  pub is_on_path : edges v ≡ true
  pub least : (u : ℕ) → edges u ≡ true → at weight v ≤ at weight u

-- (a) for s and t
pub record EquivalentFlow (net : Network) (tree : Tree) (s t : ℕ) : Type 0 where
  pub smallest : Lightest tree.weight (on_path tree.parent s t) (lightest_on tree s t)
  pub in_network : FlowValue (graph net) net.nodes s t (at tree.weight (lightest_on tree s t))
  pub in_tree : FlowValue (tree_net net.nodes tree) net.nodes s t (at tree.weight (lightest_on tree s t))

pub record CutTree (net : Network) (tree : Tree) : Type 0 where
  -- a tree on the nodes of the network: every node reaches node 0 by at most n - 1 parents
  pub parent : (i : ℕ) → i < net.nodes → at tree.parent i < net.nodes
  pub root : at tree.parent 0 ≡ 0
  pub climbs : (i : ℕ) → i < net.nodes → reaches tree.parent (net.nodes - 1) i ≡ true
  -- (a)
  pub equivalent_flow : (s t : ℕ) → s < net.nodes → t < net.nodes → s ≢ t → EquivalentFlow net tree s t
  -- (b), of every side; one that holds t and not s is such a cut of t and s
  pub cut_property : (s t : ℕ) → s < net.nodes → t < net.nodes → s ≢ t → (X : Side)
      → MinCut (tree_net net.nodes tree) s t X → MinCut (graph net) s t X
  -- more: each node's subtree is a minimum cut between the node and its parent, and its value the weight
  pub subtree : (v : ℕ) → 0 < v → v < net.nodes → MinCut (graph net) v (at tree.parent v) (under tree.parent v)
  pub weight : (v : ℕ) → 0 < v → v < net.nodes → at tree.weight v ≡ value_of net (under tree.parent v)
