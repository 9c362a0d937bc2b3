-- What holds of the definitions of specs/GusfieldTree.antt.
use Rattle.std.specs.Prelude.{◌≡◌, refl, ◌≢◌, Bool, true, false, ◌&&◌, cond, ℕ, ◌<◌, eqb}
use Rattle.std.proofs.Common.{ap, subst, ◌∙◌, eq-eqb, ne_eqb}
use Rattle.std.proofs.Math.Decide.{ℕ_discrete}
use Rattle.base.proofs.laws.Bools.{bool1}
use Rattle.min_cut.specs.Cut.{Net, Side}
use Rattle.min_cut.specs.GusfieldTree.{Goes, Tree, along, far, stays}

-- a pivot is placed, and what stands below it is in its side
module _ (G : Net) (i : ℕ) (p w : ℕ → ℕ) (Z : ℕ → Side) (r : ℕ → ℕ) (T : Tree G i p w Z r) (t : ℕ) (et : p i ≡ t) where
  pub pivot_lt : t < i
  pivot_lt = subst (λ k. k < i) et (T.done i)

  pub pivot_below : 0 < t → (x : ℕ) → 0 < x → p x ≡ t → x ≢ t → Z t x ≡ true
  pivot_below l x xl e n = T.down t x l pivot_lt xl n ∙ ap (Z t) e ∙ (T.minimum t l pivot_lt).inside

-- where each node goes, from the test that a loop makes
pub goes_by : (p p' : ℕ → ℕ) (X : Side) (s t x : ℕ) → p' x ≡ cond (X x && eqb (p x) t) s (p x) → Goes p p' X s t x
goes_by p p' X s t x e = go (X x) refl (ℕ_discrete (p x) t)
  where
    go : (b : Bool) → X x ≡ b → Dec (p x ≡ t) → Goes p p' X s t x
    go b q (no n) =
        far n (e ∙ simp (ne_eqb (p x) t n) (bool1 (λ u. cond (u && false) s (p x) ≡ p x) (refl, refl) (X x)))
    go true q (yes f) = along f q (e ∙ simp (q, eq-eqb (p x) t f))
    go false q (yes f) = stays f q (e ∙ simp q f)
