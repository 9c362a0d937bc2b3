-- The answer of a pair call from the rule's tree: a minimum cut between the two nodes, with its value.
use Rattle.std.specs.Prelude.{◌≡◌, ◌≢◌, Bool, true, false, ℕ, ◌≤◌, ◌<◌}
use Rattle.std.proofs.Math.Path.{refl}
use Rattle.std.proofs.Common.{ap₂, ◌∙◌}
use Rattle.std.proofs.Math.Bool.{not}
use Rattle.std.proofs.Common.{arith}
use Rattle.base.proofs.laws.Bools.{bool1, differ_not}
use Rattle.min_cut.specs.Cut.{Net, Side, cut_value, complement, Within}
use Rattle.base.specs.Basics.{differ}
use Rattle.min_cut.proofs.laws.CutLaws.{cut_value_ext, cut_value_complement}
use Rattle.base.specs.Word.{holds, word}
use Rattle.base.proofs.laws.WordLaws.{word_holds}
use Rattle.min_cut.proofs.theorems.LeastCut.{least_min_cut_minimum}
use Rattle.network.specs.Limits.{max_nodes}
use Rattle.network.specs.Network.{WithinLimits, graph, least_side, min_cut_value}
use Rattle.network.proofs.laws.NetworkLaws.{nodes_le, ends_within}
use Rattle.network.specs.declared.Network.{Network}
use Rattle.cut_tree.specs.Rule.{rule}
use Rattle.cut_tree.specs.Path.{lightest_on, under, side_of, answer, weight_of, side_in}
use Rattle.cut_tree.proofs.laws.RuleTree.{Placed, rule_tree}
use Rattle.cut_tree.proofs.laws.PairLaws.{lightest_separates, lightest_value}
use Rattle.cut_tree.proofs.laws.PairLaws.{lightest_least, placed_climbs}
use Rattle.cut_tree.proofs.theorems.BothEnds.{lightest_answer}
use Rattle.cut_tree.specs.declared.Tree.{Tree}
use Rattle.cut_tree.specs.Answer.{MinimumAnswer, LightestAnswer}

-- the nodes that lie as s does: a side or its complement
as_s : (G : Net) (n : ℕ) → Within G n → (X : Side) (s : ℕ)
    → cut_value G (holds (word n (λ i. not (differ (X i) (X s))))) ≡ cut_value G X
as_s G n w X s = cut_value_ext G n w (holds (word n Y)) Y (word_holds n Y) ∙ go (X s)
  where
    Y : Side
    Y i = not (differ (X i) (X s))

    go : (b : Bool) → cut_value G (λ i. not (differ (X i) b)) ≡ cut_value G X
    go true =
        cut_value_ext G n w (λ i. not (differ (X i) true)) X
        (λ i l. bool1 (λ x. not (differ x true) ≡ x) (refl, refl) (X i))
    go false =
        cut_value_ext G n w (λ i. not (differ (X i) false)) (complement X)
        (λ i l. bool1 (λ x. not (differ x false) ≡ not x) (refl, refl) (X i))
        ∙ cut_value_complement G X

module _ (net : Network) (w : WithinLimits net) (s t : ℕ) (sl : s < net.nodes) (tl : t < net.nodes) (d : s ≢ t) where
  abbrev n : ℕ
  n = net.nodes

  abbrev G : Net
  G = graph net

  abbrev tree : Tree
  tree = (rule net).tree

  -- the subtree of the lightest edge
  abbrev X : Side
  X = under tree.parent (lightest_on tree s t)

  T : Placed G n tree
  T = rule_tree net w.fits

  few : n ≤ max_nodes
  few = nodes_le net w.fits

  in_net : Within G n
  in_net = ends_within net w.fits

  pub answer_minimum : MinimumAnswer net s t (answer tree n s t)
  unfolding answer side_of
  answer_minimum =
      let Y : Side = λ i. not (differ (X i) (X s)) in
      record {
        found = refl;
        inside = word_holds n Y s sl ∙ bool1 (λ x. not (differ x x) ≡ true) (refl, refl) (X s);
        outside = word_holds n Y t tl
            ∙ rw (lightest_separates G n few in_net tree T s t sl tl d) (bool1 (λ x. not (differ x (not x)) ≡ false) (
              refl,
              refl,
            ) (X t));
        value = as_s G n in_net X s ∙ lightest_value G n few in_net tree T s t sl tl d;
        least = λ W e. lightest_least G n few in_net tree T s t sl tl d W (differ_not (W s) (W t) e);
        counted = refl;
      }

  pub answer_lightest : LightestAnswer tree s t (answer tree n s t)
  answer_lightest = lightest_answer n tree (placed_climbs G n few in_net tree T) s t sl tl d

  -- the least minimum cut has the same value
  pub answer_weight : min_cut_value net s t ≡ weight_of (answer tree n s t)
  unfolding answer
  answer_weight =
      let c = least_min_cut_minimum n G s t in_net sl tl d in
      let a = answer_minimum in
      omega (
        arith,
        a.least (holds (least_side net s t)) (ap₂ differ c.inside c.outside),
        c.least (holds (side_in (answer tree n s t))) a.inside a.outside,
        a.value,
      )
