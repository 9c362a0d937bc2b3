-- "Opening, change and take-back keep it true, and a plan in which it isn't true counts as not sound." And of every
-- sound plan with two nodes or more: what the plan holds is the lightest edge, and no pair has a smaller weight.
use Rattle.std.proofs.Common.{ℕ, zero, suc, ◌<◌, ◌≡◌, true, false, List, refl, ap, subst, sym, ◌∙◌, arith}
use Rattle.std.proofs.Math.Decide.{ℕ_discrete}
use Rattle.base.specs.Basics.{at}
use Rattle.base.specs.Checks.{accepted}
use Rattle.base.proofs.laws.Bools.{never_true}
use Rattle.cut_tree.specs.Rule.{no_tree}
use Rattle.cut_tree.specs.Path.{answer, number_of, weight_of}
use Rattle.cut_tree.specs.Answer.{LowestLightest}
use Rattle.cut_tree.specs.LightestEdge.{edges_of, no_edge, lightest_edge}
use Rattle.cut_tree.proofs.theorems.LightestCut.{lightest_of_all, lightest_weight, lightest_is_edge, pairs_above, lightest_pair}
use Rattle.cut_tree.proofs.laws.EdgeLaws.{edge_none}
use Rattle.plan.specs.Plan.{sound}
use Rattle.plan.specs.Calls.{open_of, altered, unaltered, change_number, change_of, undo_number, undo_of}
use Rattle.plan.proofs.theorems.Numbers.{change_refused, undo_refused, opening_refused, opening_accepted}
use Rattle.plan.specs.Lightest.{HoldsLightest, LeastPair}
use Rattle.plan.proofs.laws.SoundFacts.{sound_climbs, sound_lightest}
use Rattle.plan.proofs.laws.AnswersLaws.{pair_found}
use Rattle.cut_tree.specs.declared.Edge.{Edge}
use Rattle.plan.specs.declared.Stack.{Stack}
use Rattle.plan.specs.declared.Plan.{Plan}

-- ---- every call that gives a plan back, accepted or refused
-- a refused file's plan is all zeros, and has no edge
pub opening_holds : (file : List ℕ) → HoldsLightest (open_of file).plan
opening_holds file = go (ℕ_discrete (open_of file).number 0)
  where
    go : Dec ((open_of file).number ≡ 0) → HoldsLightest (open_of file).plan
    go (yes z) = rw (opening_accepted file z).1 refl
    go (no d) = rw (opening_refused file d).1 (sym (edge_none no_tree.weight 0 (omega arith)))

module _ (p : Plan) where
  -- an accepted change or undo makes it true, whatever the plan held
  reply_makes : (e k c : ℕ) (stack : Stack) → let r = accepted e (altered p k c stack) (unaltered p) in
      r.number ≡ 0 → HoldsLightest r.plan
  unfolding altered
  reply_makes zero k c stack z = refl
  reply_makes (suc e) k c stack z = absurd (omega arith)

  pub change_makes : (k c : ℕ) → (change_of p k c).number ≡ 0 → HoldsLightest (change_of p k c).plan
  unfolding change_of
  change_makes k c = reply_makes (change_number p k c) k c _

  pub undo_makes : (undo_of p).number ≡ 0 → HoldsLightest (undo_of p).plan
  unfolding undo_of
  undo_makes = reply_makes (undo_number p) _ _ _

  -- and a refused one leaves it
  module _ (h : HoldsLightest p) where
    pub change_keeps : (k c : ℕ) → HoldsLightest (change_of p k c).plan
    change_keeps k c = go (ℕ_discrete (change_of p k c).number 0)
      where
        go : Dec ((change_of p k c).number ≡ 0) → HoldsLightest (change_of p k c).plan
        go (yes z) = change_makes k c z
        go (no d) = rw (change_refused p k c d).0 h

    pub undo_keeps : HoldsLightest (undo_of p).plan
    undo_keeps = go (ℕ_discrete (undo_of p).number 0)
      where
        go : Dec ((undo_of p).number ≡ 0) → HoldsLightest (undo_of p).plan
        go (yes z) = undo_makes z
        go (no d) = rw (undo_refused p d).0 h

-- ---- soundness
pub not_held : (p : Plan) → ¬ (HoldsLightest p) → sound p ≡ false
not_held p n = never_true (sound p) (λ e. n (sound_lightest p e))

module _ (p : Plan) (e : sound p ≡ true) where
  abbrev n : ℕ
  n = p.network.nodes

  -- with one node both are 0
  pub alone : n ≡ 1 → p.lightest ≡ no_edge
  alone one = sound_lightest p e ∙ edge_none p.tree.weight n (omega arith)

  module _ (two : 1 < n) where
    -- of the nodes from 1 up none has a lighter edge, and none as light a lower number; the weight is that edge's
    pub held_lightest : LowestLightest p.tree.weight (edges_of n) p.lightest.node
        × (p.lightest.weight ≡ at p.tree.weight p.lightest.node)
    held_lightest =
        let c = sound_climbs p e in
        rw (sound_lightest p e) (lightest_of_all n p.tree c two, lightest_weight n p.tree c two)

    -- no pair has a smaller weight, and that of the edge's node and node 0 has this one
    pub least_pair : LeastPair p p.lightest.weight
    unfolding answer
    least_pair =
        let c = sound_climbs p e in
        let v = (lightest_edge n p.tree).node in
        let (z, l) = lightest_is_edge n p.tree c two in
        let q = pair_found p v 0 e l (omega arith) (λ d. omega arith) in
        subst (LeastPair p) (sym (ap (λ (x : Edge). x.weight) (sound_lightest p e))) (record {
          every_pair = λ s t sl tl d. rw (pair_found p s t e sl tl d) (pairs_above n p.tree c two s t sl tl d);
          some_pair = (v, 0, ap number_of q, ap weight_of q ∙ lightest_pair n p.tree c two);
        })
