-- A change leaves every sound plan sound, reached from an opening or not. So a pair call that follows an accepted
-- change, as in a preview, is never refused with 19.
use Rattle.std.proofs.Common.{ℕ, zero, suc, ◌≡◌, true, refl, ap, ◌∙◌, arith}
use Rattle.base.specs.Checks.{accepted}
use Rattle.cut_tree.specs.Path.{query_number, answer, query_of, number_of}
use Rattle.cut_tree.specs.Path.{Refused}
use Rattle.base.proofs.laws.ChecksLaws.{number_kept}
use Rattle.plan.specs.Plan.{sound}
use Rattle.plan.specs.Calls.{change_number, unaltered, changed, change_of, pair_of}
use Rattle.plan.proofs.laws.AlteredLaws.{changed_sound}
use Rattle.plan.proofs.laws.AnswersLaws.{pair_query}
use Rattle.plan.specs.declared.Plan.{Plan}

module _ (p : Plan) (k c : ℕ) where
  by_number : (e : ℕ) → change_number p k c ≡ e → let r = accepted e (changed p k c) (unaltered p) in
      r.number ≡ 0 → sound r.plan ≡ true
  by_number zero z n = changed_sound p k c z
  by_number (suc e) z n = absurd (omega arith)

  -- accepted, of any plan
  pub change_leaves_sound : (change_of p k c).number ≡ 0 → sound (change_of p k c).plan ≡ true
  unfolding change_of
  change_leaves_sound = by_number (change_number p k c) refl

  -- and the pair call behind it has the numbers of two nodes alone, 14 and 15
  pub pair_behind : (change_of p k c).number ≡ 0 → (s t : ℕ)
      → number_of (pair_of (change_of p k c).plan s t) ≡ query_number (change_of p k c).plan.network.nodes s t
  unfolding query_of answer
  pair_behind z s t =
      let q = (change_of p k c).plan in
      let n = q.network.nodes in
      ap number_of (pair_query q s t (change_leaves_sound z))
      ∙ number_kept number_of (query_number n s t) (answer q.tree n s t) Refused refl (λ n. refl)
