-- Tree and steps of the rule's shape pass the tests of a sound plan, and what passes them has it.
use Rattle.std.proofs.Common.{◌≡◌, true, not, ℕ, zero, suc, ◌<◌, ap, arith, ltb, leb, lt-ltb, le-leb, eq-eqb, ltb-true, leb-true}
use Rattle.std.proofs.lemmas.Bool.{not-true}
use Rattle.base.specs.Basics.{at}
use Rattle.base.proofs.laws.TestLaws.{all_at, all_in, none, ◌&◌, shown, head, rest, test}
use Rattle.base.proofs.laws.BlankLaws.{blank_in}
use Rattle.network.specs.Limits.{max_value}
use Rattle.cut_tree.specs.Path.{max_climb, reaches}
use Rattle.cut_tree.proofs.laws.RuleShape.{CutFits, Shape}
use Rattle.cut_tree.specs.declared.Built.{Built}
use Rattle.cut_tree.specs.declared.Steps.{Steps}
use Rattle.plan.specs.Plan.{tree_fits, step_fits, steps_fit}

module _ (n : ℕ) (b : Built) (S : Shape n b) where
  pub tree_fits_lem : tree_fits n b.tree ≡ true
  unfolding tree_fits
  tree_fits_lem =
      let tree = b.tree in
      test (eq-eqb _ _ S.root.parent & eq-eqb _ _ S.root.weight
      & all_in n (λ i. ltb (at tree.parent i) n) (λ i l. lt-ltb _ _ (S.parent i))
      & all_in n (λ i. leb (at tree.weight i) max_value) (λ i l. le-leb _ _ (S.weight i))
      & all_in n (reaches tree.parent max_climb) S.climbs
      & blank_in n _ (λ x l. (S.unused x l).parent) & blank_in n _ (λ x l. (S.unused x l).weight) & none)

  step_fits_lem : (s : ℕ) → s < n → step_fits n b.steps s ≡ true
  step_fits_lem zero l = test (eq-eqb _ _ S.root.pivot & eq-eqb _ _ S.root.side & eq-eqb _ _ S.root.value & none)
  step_fits_lem (suc s) l =
      let h = S.step (suc s) (omega arith) l in
      let pl : at b.steps.pivot (suc s) < n = omega (arith, h.pivot) in
      let c = h.cut in
      test (lt-ltb _ _ pl & lt-ltb _ _ c.nodes & le-leb _ _ c.within & c.inside & ap not c.outside & none)

  pub steps_fit_lem : steps_fit n b.steps ≡ true
  unfolding steps_fit
  steps_fit_lem =
      test (all_in n (step_fits n b.steps) step_fits_lem & blank_in n _ (λ x l. (S.unused x l).pivot)
      & blank_in n _ (λ x l. (S.unused x l).side) & blank_in n _ (λ x l. (S.unused x l).value) & none)

-- the cuts of steps that pass
module _ (n : ℕ) (steps : Steps) (e : steps_fit n steps ≡ true) where
  cut_fits : (s : ℕ) → 0 < s → step_fits n steps s ≡ true
      → CutFits n s (at steps.pivot s) (at steps.side s) (at steps.value s)
  cut_fits zero p f = absurd (omega arith)
  cut_fits (suc s) p f =
      let h = rest (shown _ f) in
      record {
        nodes = ltb-true _ _ (head h);
        inside = head (rest (rest h));
        outside = not-true _ (head (rest (rest (rest h))));
        within = leb-true _ _ (head (rest h));
      }

  pub cuts_fit : (s : ℕ) → 0 < s → s < n → CutFits n s (at steps.pivot s) (at steps.side s) (at steps.value s)
  unfolding steps_fit
  cuts_fit s p l = cut_fits s p (all_at n (step_fits n steps) (head (shown _ e)) s l)
