-- The lightest edge of a tree with two nodes or more. Of any tree below node 0: it is one of its edges, none is
-- lighter, and none as light has a lower number; no pair's weight is below its weight, and that of its node and node 0
-- is it. Of a cut tree: it is the network's own minimum cut.
use Rattle.std.specs.Prelude.{ℕ, ◌≤◌, ◌<◌, ◌≡◌, ◌≢◌}
use Rattle.std.proofs.Math.Path.{refl, ap}
use Rattle.std.proofs.Common.{sym, ◌∙◌}
use Rattle.std.proofs.Math.Bool.{true≢false}
use Rattle.std.proofs.Common.{arith}
use Rattle.min_cut.specs.Cut.{Side}
use Rattle.base.specs.Basics.{at}
use Rattle.network.specs.Network.{value_of}
use Rattle.network.specs.declared.Network.{Network}
use Rattle.cut_tree.specs.Path.{Climbs, under, lightest_on, answer, weight_of}
use Rattle.cut_tree.specs.Answer.{LowestLightest}
use Rattle.cut_tree.specs.Definition1.{CutTree}
use Rattle.cut_tree.specs.LightestEdge.{edges_of, lightest_edge, Proper, NetworkCut}
use Rattle.cut_tree.proofs.laws.EdgeLaws.{edge_is, is_edge_lem, edge_some, edge_lowest}
use Rattle.cut_tree.proofs.laws.PathLaws.{lowest_lightest, lightest_node, root_edge}
use Rattle.cut_tree.specs.declared.Edge.{Edge}
use Rattle.cut_tree.specs.declared.Tree.{Tree}

module _ (n : ℕ) (tree : Tree) (h : Climbs n tree.parent) (two : 1 < n) where
  abbrev lightest : Edge
  lightest = lightest_edge n tree

  pub lightest_of_all : LowestLightest tree.weight (edges_of n) lightest.node
  lightest_of_all = edge_lowest tree.weight n h.small two

  pub lightest_weight : lightest.weight ≡ at tree.weight lightest.node
  lightest_weight = rw (edge_some tree.weight n two)

  pub lightest_is_edge : (0 < lightest.node) × (lightest.node < n)
  lightest_is_edge = is_edge_lem n lightest.node lightest_of_all.lightest.is_on_path

  -- no pair has a smaller weight
  pub pairs_above : (s t : ℕ) → s < n → t < n → s ≢ t → lightest.weight ≤ weight_of (answer tree n s t)
  unfolding answer
  pairs_above s t sl tl d =
      let u = lightest_node n tree h s t sl tl d in
      omega (arith, lightest_weight, lightest_of_all.lightest.least (lightest_on tree s t) (edge_is n _ u.0 u.1))

  -- and some pair has it: its edge is on the path to node 0
  pub lightest_pair : weight_of (answer tree n lightest.node 0) ≡ lightest.weight
  unfolding answer
  lightest_pair =
      let v = lightest.node in
      let (p, l) = lightest_is_edge in
      let z : 0 < n = omega arith in
      let d : v ≢ 0 = λ e. omega arith in
      let on = root_edge n tree h v 0 l z d refl in
      omega (
        arith,
        lightest_weight,
        pairs_above v 0 l z d,
        (lowest_lightest n tree h v 0 l z d).lightest.least v on,
      )

module _ (net : Network) (tree : Tree) (T : CutTree net tree) (h : Climbs net.nodes tree.parent)
    (two : 1 < net.nodes) where
  abbrev n : ℕ
  n = net.nodes

  -- a side that is neither empty nor all nodes separates two, and no pair's weight is below the lightest edge's
  sides_above : (X : Side) → Proper n X → (lightest_edge n tree).weight ≤ value_of net X
  unfolding answer
  sides_above X p =
      let (i, il, e) = p.holds_one in
      let (j, jl, f) = p.lacks_one in
      let d : i ≢ j = λ q. true≢false (sym e ∙ ap X q ∙ f) in
      let (Y, m, c) = (T.equivalent_flow i j il jl d).in_network.cut in
      omega (arith, pairs_above n tree h two i j il jl d, c, m.least X e f)

  -- THE LIGHTEST EDGE IS THE NETWORK'S MINIMUM CUT: its node's subtree has its weight as value
  pub lightest_cut : NetworkCut net (lightest_edge n tree).weight
  lightest_cut =
      let v = (lightest_edge n tree).node in
      let (p, l) = lightest_is_edge n tree h two in
      let m = T.subtree v p l in
      record {
        side = (
          under tree.parent v,
          record { holds_one = (v, l, m.inside); lacks_one = (at tree.parent v, T.parent v l, m.outside) },
          sym (lightest_weight n tree h two ∙ T.weight v p l),
        );
        least = sides_above;
      }
