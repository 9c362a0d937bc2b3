-- The rule keeps the invariant of Gusfield's tree: every placed node's subtree is a minimum cut between the node and its parent, and its
-- value the weight.
use Rattle.std.specs.Prelude.{◌≡◌, ◌≢◌, Bool, true, false, List, length, set}
use Rattle.std.proofs.Math.Path.{refl, subst, fun_ext}
use Rattle.std.proofs.Common.{◌∙◌, arith, length-set, get_or-set_same, get_or-set_other}
use Rattle.std.specs.Prelude.{ℕ, zero, suc, ◌-◌, ◌^◌, ◌<◌}
use Rattle.std.proofs.Math.Pow.{pow_mono}
use Rattle.min_cut.specs.Cut.{Net, cut_value, MinCut}
use Rattle.base.specs.Word.{holds}
use Rattle.min_cut.proofs.theorems.LeastCut.{least_min_cut_minimum, least_min_cut_lt}
use Rattle.min_cut.specs.GusfieldTree.{IsCutTree, start}
use Rattle.min_cut.proofs.theorems.GusfieldStep.{step, step_up}
use Rattle.base.specs.Basics.{at}
use Rattle.base.proofs.laws.BlankLaws.{zeros_at}
use Rattle.network.specs.Limits.{max_nodes}
use Rattle.network.specs.Network.{network_fits, graph, least_side}
use Rattle.network.proofs.laws.NetworkLaws.{nodes_pos, nodes_le, ends_within}
use Rattle.network.specs.declared.Network.{Network}
use Rattle.cut_tree.specs.Rule.{placed, stepped, rule_by, least_cut, rule, no_tree}
use Rattle.cut_tree.proofs.laws.RuleLaws.{rule_long, parents_le}
use Rattle.cut_tree.proofs.laws.PlacedLaws.{beside_goes, beside_own, between_goes, between_own, between_pivot}
use Rattle.cut_tree.specs.declared.Tree.{Tree}

-- the tree of the nodes below i, as the theory of cuts has it
abbrev pub Placed : Net → ℕ → Tree → Type 0
Placed G i tree = IsCutTree G i (at tree.parent) (at tree.weight)

-- ---- one step
module _ (G : Net) (tree : Tree) (pl : length tree.parent ≡ max_nodes) (wl : length tree.weight ≡ max_nodes) (s : ℕ) (sl : s < max_nodes)
    (T : Placed G s tree) (X : ℕ) (xl : X < 2 ^ max_nodes) (m : MinCut G s (at tree.parent s) (holds X)) where
  abbrev ps : List ℕ
  ps = tree.parent

  abbrev t : ℕ
  t = at ps s

  abbrev w : ℕ
  w = cut_value G (holds X)

  tl : t < s
  tl = T.2.done s

  placed_tree : (b : Bool) → holds X (at ps t) ≡ b → Placed G (suc s) (placed b tree s t X w)
  placed_tree false e =
      step G s (at ps) (at tree.weight) T.0 T.1 T.2 t refl (holds X) m (at (placed false tree s t X w).parent)
      (at (set tree.weight s w)) e
      (beside_goes tree pl s t X w xl)
      (beside_own tree pl s t X w xl sl)
      (get_or-set_same tree.weight s w 0 (omega arith))
      (λ y n. get_or-set_other tree.weight s y w 0 n)
  placed_tree true e =
      step_up G s (at ps) (at tree.weight) T.0 T.1 T.2 t refl (holds X) m (at (placed true tree s t X w).parent)
      (at (set (set tree.weight s v) t w)) e
      (between_goes tree pl s t X w xl)
      (between_own tree pl s t X w xl sl ne)
      (between_pivot tree pl s t X w xl (omega (arith, tl)))
      (get_or-set_other (set tree.weight s v) t s w 0 ne ∙ get_or-set_same tree.weight s v 0 (omega arith))
      (get_or-set_same (set tree.weight s v) t w 0 (rw length-set (omega (arith, tl))))
      (λ y n o. get_or-set_other (set tree.weight s v) t y w 0 o ∙ get_or-set_other tree.weight s y v 0 n)
    where
      v : ℕ
      v = at tree.weight t

      ne : s ≢ t
      ne = omega (arith, tl)

-- ---- all steps
module _ (net : Network) (e : network_fits net ≡ true) where
  -- the cut of a step, whose pivot is below it
  pub least_minimum : (s t : ℕ) → s < net.nodes → t < s → MinCut (graph net) s t (holds (least_side net s t))
  least_minimum s t l m = least_min_cut_minimum net.nodes (graph net) s t (ends_within net e) l (omega arith) (omega arith)

  pub least_lt : (s t : ℕ) → s < net.nodes → t < s → least_side net s t < 2 ^ net.nodes
  least_lt s t l m = least_min_cut_lt net.nodes (graph net) s t (ends_within net e) l (omega arith) (omega arith)

  pub steps_tree : (k : ℕ) → k < net.nodes → Placed (graph net) (suc k) (rule_by (least_cut net) k).tree
  unfolding rule_by stepped least_cut
  steps_tree zero l =
      let none : at no_tree.parent ≡ (λ x. 0) = fun_ext (zeros_at max_nodes) in
      rw none ((λ y x. false), (λ x. x), start (graph net) (λ x. 0) (λ y x. false))
  steps_tree (suc k) l =
      let tree = (rule_by (least_cut net) k).tree in
      let long = rule_long (least_cut net) k in
      let t = at tree.parent (suc k) in
      let tl : t < suc k = omega (arith, parents_le (least_cut net) k (suc k)) in
      let X = least_side net (suc k) t in
      placed_tree (graph net) tree long.parent long.weight (suc k) (omega (arith, nodes_le net e)) (steps_tree k (omega arith)) X
      (omega (arith, least_lt (suc k) t l tl, pow_mono {i = net.nodes} {j = max_nodes} (nodes_le net e))) (least_minimum (suc k) t l tl)
      (holds X (at tree.parent t)) refl

  pub rule_tree : Placed (graph net) net.nodes (rule net).tree
  unfolding rule
  rule_tree =
      let n : suc (net.nodes - 1) ≡ net.nodes = omega (arith, nodes_pos net e) in
      subst (λ i. Placed (graph net) i (rule_by (least_cut net) (net.nodes - 1)).tree) n (steps_tree (net.nodes - 1) (omega arith))
