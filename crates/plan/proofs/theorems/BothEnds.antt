-- "Both ends show the same bottleneck": what the calls for (s, t) and for (t, s) reply, of every plan. A plan that is
-- not sound is refused at both ends alike.
use Rattle.std.proofs.Common.{ℕ, ◌≡◌, refl, Bool, true, false, [], ◌∷◌, ltb, arith}
use Rattle.base.specs.Checks.{row}
use Rattle.network.specs.Refusals.{demand_too_large}
use Rattle.cut_tree.specs.Path.{answer, number_of}
use Rattle.cut_tree.specs.Answer.{LightestAnswer, BothEnds}
use Rattle.cut_tree.proofs.theorems.BothEnds.{both_ends, query_lightest}
use Rattle.cut_tree.proofs.laws.QueryLaws.{refused_both}
use Rattle.cut_tree.proofs.theorems.SameEdge.{same_edge}
use Rattle.plan.specs.Plan.{sound}
use Rattle.plan.specs.Calls.{max_demand, pair_of, headroom_number, headroom_of}
use Rattle.plan.proofs.laws.SoundFacts.{sound_climbs}
use Rattle.plan.proofs.laws.AnswersLaws.{pair_unsound, pair_query, rows_turned}
use Rattle.plan.specs.declared.Plan.{Plan}

module _ (p : Plan) (s t : ℕ) where
  abbrev n : ℕ
  n = p.network.nodes

  -- an accepted pair call's node is on the tree's path, none there is lighter, and none as light has a lower number
  pub pair_lightest : number_of (pair_of p s t) ≡ 0 → LightestAnswer p.tree s t (pair_of p s t)
  pair_lightest = go (sound p) refl
    where
      go : (b : Bool) → sound p ≡ b → number_of (pair_of p s t) ≡ 0 → LightestAnswer p.tree s t (pair_of p s t)
      go true e = rw (pair_query p s t e) (query_lightest n p.tree (sound_climbs p e) s t)
      go false e = rw (pair_unsound p s t e) (λ z. absurd (omega arith))

  -- refused alike; else the same weight and node, sides that are each other's complement, sizes that add up to n
  pub pair_both_ends : BothEnds n (pair_of p s t) (pair_of p t s)
  pair_both_ends = go (sound p) refl
    where
      go : (b : Bool) → sound p ≡ b → BothEnds n (pair_of p s t) (pair_of p t s)
      go true e = rw (pair_query p s t e, pair_query p t s e) (both_ends n p.tree (sound_climbs p e) s t)
      go false e = rw (pair_unsound p s t e, pair_unsound p t s e) (refused_both n 19 (omega arith))

  -- and one headroom
  pub headroom_both_ends : (demand : ℕ) → headroom_of p s t demand ≡ headroom_of p t s demand
  unfolding headroom_of headroom_number answer
  headroom_both_ends demand =
      rw (same_edge p.tree s t, rows_turned p s t (row (ltb max_demand demand) demand_too_large ∷ []))
