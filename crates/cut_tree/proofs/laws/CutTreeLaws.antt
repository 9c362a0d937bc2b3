-- The rule's tree is a cut tree (Definition 1 of source document 001), of every network within the limits.
use Rattle.std.specs.Prelude.{◌≡◌, refl, ◌≢◌, Bool, true, false, not, ℕ, suc, ◌-◌, ◌≤◌, ◌<◌}
use Rattle.std.proofs.Common.{sym, ap, ◌∙◌, arith}
use Rattle.min_cut.specs.Cut.{Net, Side, cut_value, complement, Separates, MinCut, Within}
use Rattle.min_cut.proofs.laws.CutLaws.{cut_value_ext, cut_value_complement}
use Rattle.base.specs.Basics.{at}
use Rattle.network.specs.Limits.{max_nodes}
use Rattle.network.specs.Network.{WithinLimits, graph}
use Rattle.network.proofs.laws.NetworkLaws.{nodes_le, ends_within}
use Rattle.network.specs.declared.Network.{Network}
use Rattle.cut_tree.specs.Path.{lightest_on, under}
use Rattle.cut_tree.specs.Definition1.{tree_net, FlowValue, EquivalentFlow, CutTree}
use Rattle.cut_tree.proofs.laws.Depth.{climb_ends}
use Rattle.cut_tree.proofs.laws.RuleTree.{Placed}
use Rattle.cut_tree.proofs.laws.PathLaws.{lightest_node}
use Rattle.cut_tree.proofs.laws.PairLaws.{under_is, under_value, under_minimum, lightest_edge_lem, lightest_separates, placed_climbs}
use Rattle.cut_tree.proofs.laws.PairLaws.{lightest_value, lightest_least}
use Rattle.cut_tree.proofs.laws.TreeValues.{value_le_tree, subtree_value}
use Rattle.min_cut.proofs.theorems.StrongDuality.{max_flow_min_cut}
use Rattle.cut_tree.specs.declared.Tree.{Tree}

-- a value that a side between s and t has, and no side undercuts, is the value of a minimum cut and of a maximum flow
flow_value : (G : Net) (n : ℕ) → Within G n → (s t v : ℕ) → s < n → t < n → s ≢ t → (X : Side)
    → X s ≡ true → X t ≡ false → cut_value G X ≡ v
    → ((W : Side) → Separates W s t → v ≤ cut_value G W) → FlowValue G n s t v
flow_value G n w s t v sl tl d X i o e least =
    let m : MinCut G s t X = record { inside = i; outside = o; least = λ W wi wo. omega (arith, least W (wi ∙ sym (ap not wo))) } in
    rw (← e) (record { flow = max_flow_min_cut G n s t w sl tl d X m; cut = (X, m, refl) })

-- so for a side that separates them, either way round
separating_value : (G : Net) (n : ℕ) → Within G n → (s t v : ℕ) → s < n → t < n → s ≢ t → (X : Side) → Separates X s t → cut_value G X ≡ v
    → ((W : Side) → Separates W s t → v ≤ cut_value G W) → FlowValue G n s t v
separating_value G n w s t v sl tl d X e c least = go (X t) refl
  where
    go : (b : Bool) → X t ≡ b → FlowValue G n s t v
    go false q = flow_value G n w s t v sl tl d X (e ∙ ap not q) q c least
    go true q = flow_value G n w s t v sl tl d (complement X) (simp (e, q)) (simp q) (cut_value_complement G X ∙ c) least

module _ (net : Network) (w : WithinLimits net) (tree : Tree) (P : Placed (graph net) net.nodes tree) where
  abbrev n : ℕ
  n = net.nodes

  abbrev G : Net
  G = graph net

  abbrev T : Net
  T = tree_net n tree

  few : n ≤ max_nodes
  few = nodes_le net w.fits

  in_net : Within G n
  in_net = ends_within net w.fits

  in_tree : Within T n
  in_tree k l = (omega arith, P.2.done (suc k))

  module _ (s t : ℕ) (sl : s < n) (tl : t < n) (d : s ≢ t) where
    abbrev v : ℕ
    v = lightest_on tree s t

    abbrev weight : ℕ
    weight = at tree.weight v

    -- the subtree of the lightest edge
    abbrev X : Side
    X = under tree.parent v

    separates : Separates X s t
    separates = lightest_separates G n few in_net tree P s t sl tl d

    least : (W : Side) → Separates W s t → weight ≤ cut_value G W
    least = lightest_least G n few in_net tree P s t sl tl d

    least_tree : (W : Side) → Separates W s t → weight ≤ cut_value T W
    least_tree W e = omega (arith, least W e, value_le_tree G n in_net tree P W)

    value_tree : cut_value T X ≡ weight
    value_tree =
        let p = lightest_node n tree (placed_climbs G n few in_net tree P) s t sl tl d in
        cut_value_ext T n in_tree X (P.0 v) (λ x l. under_is G n few in_net tree P v x p.0 p.1 l)
        ∙ subtree_value G n in_net tree P v p.0 p.1

    value_in_tree : FlowValue T n s t weight
    value_in_tree = separating_value T n in_tree s t weight sl tl d X separates value_tree least_tree

    equivalent : EquivalentFlow net tree s t
    equivalent =
        record {
          smallest = lightest_edge_lem G n few in_net tree P s t sl tl d;
          in_network = separating_value G n in_net s t weight sl tl d X separates (lightest_value G n few in_net tree P s t sl tl d) least;
          in_tree = value_in_tree;
        }

    -- a minimum cut of the tree has the lightest weight as its value there, so no larger value in the network
    same_cut : (Y : Side) → MinCut T s t Y → MinCut G s t Y
    same_cut Y y =
        let c = value_in_tree.cut in
        let low : cut_value T Y ≤ cut_value T c.0 = y.least c.0 c.1.inside c.1.outside in
        let over = value_le_tree G n in_net tree P Y in
        record { inside = y.inside; outside = y.outside; least = λ W i o. omega (arith, c.2, low, over, least W (i ∙ sym (ap not o))) }

  pub placed_cut_tree : CutTree net tree
  placed_cut_tree =
      record {
        parent = λ i l. P.2.done i;
        root = P.2.home;
        climbs = λ i l. climb_ends G n tree.parent (at tree.weight) P.0 P.1 P.2 (n - 1) i (omega arith) l;
        equivalent_flow = equivalent;
        cut_property = same_cut;
        subtree = under_minimum G n few in_net tree P;
        weight = λ v p l. sym (under_value G n few in_net tree P v p l);
      }
