-- What holds of the definitions of specs/Rebuilds.antt.
use Rattle.std.specs.Prelude.{◌≡◌, Bool, true, false, ◌&&◌, ℕ, zero, suc, ◌-◌, ◌≤◌, ◌<◌, eqb}
use Rattle.std.proofs.Math.Path.{refl, ap}
use Rattle.std.proofs.Common.{sym, ◌∙◌, arith, eqb-true}
use Rattle.base.proofs.laws.SumLaws.{sum_ext}
use Rattle.base.specs.Word.{holds}
use Rattle.base.specs.Basics.{pick, at}
use Rattle.network.specs.Limits.{max_nodes}
use Rattle.network.specs.Network.{WithinLimits, with_capacity, least_side, min_cut_value}
use Rattle.network.proofs.laws.NetworkLaws.{nodes_pos, nodes_le}
use Rattle.network.specs.declared.Network.{Network}
use Rattle.cut_tree.specs.Rule.{stepped, rule_by, least_cut, rule}
use Rattle.cut_tree.specs.Rebuild.{KeepTest, kept_by, kept_or_least_by, rebuilt_by, not_kept_by}
use Rattle.cut_tree.specs.Rebuild.{link_test, rebuilt, not_kept}
use Rattle.cut_tree.proofs.laws.RuleLaws.{rule_recorded, SameCut, SameRule, rule_same, rule_ext}
use Rattle.cut_tree.proofs.laws.RuleLaws.{count_is, count_le}
use Rattle.cut_tree.proofs.laws.RebuildLaws.{cut_anew, anew_le, pivot_moved}
use Rattle.cut_tree.specs.KeepLemma.{SameNodes}
use Rattle.cut_tree.proofs.theorems.KeepLemma.{keep_lemma, change_nodes, survives_loses}
use Rattle.cut_tree.specs.declared.Steps.{Steps}
use Rattle.cut_tree.specs.Rule.{StepCut}
use Rattle.cut_tree.specs.Rebuilds.{RightTest}

-- ---- a rebuild by any test that is right
module _ (old new : Network) (w : WithinLimits old) (same : SameNodes old new)
    (test : KeepTest) (fall : ℕ) (right : RightTest old new test fall) where
  few : new.nodes - 1 < max_nodes
  few = omega (arith, same.nodes, nodes_le old w.fits, nodes_pos old w.fits)

  -- the cuts that a rebuild takes are the least ones of the new network
  kept_same : (s t : ℕ) → t < s → s ≤ new.nodes - 1
      → SameCut (kept_or_least_by new test fall (rule old).steps s t) (least_cut new s t)
  unfolding kept_or_least_by kept_by least_cut rule
  kept_same s t l m = go (eqb (at was.pivot s) t) refl (test (at was.side s) (at was.value s)) refl
    where
      was : Steps
      was = (rule old).steps

      stays : StepCut
      stays = record { side = at was.side s; value = at was.value s - fall; anew = 0 }

      now : StepCut
      now = least_cut new s t

      go : (p : Bool) → eqb (at was.pivot s) t ≡ p → (q : Bool) → test (at was.side s) (at was.value s) ≡ q
          → SameCut (pick (p && q) stays now) now
      go false ep q eq = record { side = refl; value = refl }
      go true ep false eq = record { side = refl; value = refl }
      go true ep true eq =
          let n : new.nodes ≡ old.nodes = same.nodes in
          let r = rule_recorded (least_cut old) (old.nodes - 1) (omega (arith, few)) s (omega arith) (omega arith) in
          let es : at was.side s ≡ least_side old s t = r.side ∙ ap (least_side old s) (eqb-true _ _ ep) in
          let ev : at was.value s ≡ min_cut_value old s t = r.value ∙ ap (min_cut_value old s) (eqb-true _ _ ep) in
          let loses = right s t (omega arith) (omega arith) (omega arith) (rw (es, ev) at eq) in
          let h = keep_lemma old new w same s t (omega arith) (omega arith) (omega arith) fall loses in
          record { side = es ∙ sym h.0; value = ap (λ v. v - fall) ev ∙ sym h.1 }

  rebuilt_by_same : SameRule (rebuilt_by new test fall (rule old).steps) (rule new)
  unfolding rebuilt_by rule
  rebuilt_by_same = rule_same (kept_or_least_by new test fall (rule old).steps) (least_cut new) (new.nodes - 1) kept_same

  pub rebuilt_by_tree : (rebuilt_by new test fall (rule old).steps).tree ≡ (rule new).tree
  rebuilt_by_tree = rebuilt_by_same.tree

  pub rebuilt_by_steps : (rebuilt_by new test fall (rule old).steps).steps ≡ (rule new).steps
  rebuilt_by_steps = rebuilt_by_same.steps

  pub rebuilt_by_count : (rebuilt_by new test fall (rule old).steps).count ≡ not_kept_by old new test
  unfolding rebuilt_by not_kept_by
  rebuilt_by_count =
      count_is (kept_or_least_by new test fall (rule old).steps) (new.nodes - 1) few
      ∙ sum_ext (new.nodes - 1) _ _
      (λ i il. cut_anew new test fall (rule old).steps (suc i) _
      ∙ ap (λ (z : Steps). pick (kept_by test (rule old).steps (suc i) (at z.pivot (suc i))) 0 1) rebuilt_by_steps)

-- whatever the steps and the test, at most n - 1 cuts are worked out
pub rebuilt_by_most : (new : Network) (test : KeepTest) (fall : ℕ) (steps : Steps)
    → (rebuilt_by new test fall steps).count ≤ new.nodes - 1
unfolding rebuilt_by
rebuilt_by_most new test fall steps =
    count_le (kept_or_least_by new test fall steps) (anew_le new test fall steps) (new.nodes - 1)

-- ---- link k goes to capacity d
module _ (net : Network) (w : WithinLimits net) (k d : ℕ) (kl : k < net.links) where
  abbrev new : Network
  new = with_capacity net k d

  abbrev fall : ℕ
  fall = at net.capacity k - d

  link_right : RightTest net new (link_test net k d) fall
  link_right s t sl tl n e = survives_loses net w k d kl (holds (least_side net s t)) (min_cut_value net s t) e

  pub rebuilt_tree : (rebuilt net (rule net).steps k d).tree ≡ (rule (with_capacity net k d)).tree
  unfolding rebuilt
  rebuilt_tree = rebuilt_by_tree net new w (change_nodes net w k d kl) (link_test net k d) fall link_right

  pub rebuilt_steps : (rebuilt net (rule net).steps k d).steps ≡ (rule (with_capacity net k d)).steps
  unfolding rebuilt
  rebuilt_steps = rebuilt_by_steps net new w (change_nodes net w k d kl) (link_test net k d) fall link_right

  pub rebuilt_count : (rebuilt net (rule net).steps k d).count ≡ not_kept net k d
  unfolding rebuilt not_kept
  rebuilt_count = rebuilt_by_count net new w (change_nodes net w k d kl) (link_test net k d) fall link_right

pub rebuilt_most : (net : Network) (steps : Steps) (k d : ℕ) → (rebuilt net steps k d).count ≤ net.nodes - 1
unfolding rebuilt
rebuilt_most net steps k d = rebuilt_by_most (with_capacity net k d) (link_test net k d) (at net.capacity k - d) steps

-- ---- the first build: a rebuild from steps none of which is ever kept, since their pivots are no nodes
pub built_anew : (net : Network) (test : KeepTest) (fall : ℕ) (steps : Steps) → net.nodes ≤ max_nodes
    → ((s : ℕ) → s < max_nodes → max_nodes ≤ at steps.pivot s) → rebuilt_by net test fall steps ≡ rule net
unfolding rebuilt_by rule
built_anew net test fall steps l none =
    rule_ext (kept_or_least_by net test fall steps) (least_cut net) (net.nodes - 1)
    (λ s t tl sl. pivot_moved net test fall steps s t (λ e. omega (arith, none s (omega arith))))

-- the rule works every cut out
least_count : (net : Network) (k : ℕ) → (rule_by (least_cut net) k).count ≡ k
unfolding rule_by stepped least_cut
least_count net zero = refl
least_count net (suc k) = omega (arith, least_count net k)

pub rule_count : (net : Network) → (rule net).count ≡ net.nodes - 1
unfolding rule
rule_count net = least_count net (net.nodes - 1)
