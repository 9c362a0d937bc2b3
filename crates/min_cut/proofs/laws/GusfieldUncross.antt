-- The cut X of a step is made to fit the tree: uncrossed with the subtree of each neighbour of the pivot t, so that it holds all of a
-- subtree or none.
use Rattle.std.specs.Prelude.{◌≡◌, ◌≢◌, Bool, ◌&&◌, ◌||◌, eqb, ℕ, zero, suc, ◌≤◌, ◌<◌}
use Rattle.std.proofs.Math.Path.{refl, sym, ap}
use Rattle.std.proofs.Common.{subst, ◌∙◌, true≢false, arith, ltb-true, lt-ltb, eqb-true, eq-eqb}
use Rattle.std.proofs.Math.Bool.{true, false, not, cond}
use Rattle.std.proofs.Math.Decide.{ℕ_discrete}
use Rattle.std.proofs.Math.Dec.{ltb}
use Rattle.base.proofs.laws.Bools.{and_both, or_right}
use Rattle.min_cut.specs.Cut.{Net, Side, cut_value, complement, MinCut}
use Rattle.min_cut.proofs.laws.CutLaws.{complement_minimum}
use Rattle.min_cut.proofs.laws.Uncross.{uncrossed, uncrossed_own, uncrossed_in, uncrossed_out, uncrossed_minimum}
use Rattle.min_cut.specs.GusfieldTree.{Tree}
use Rattle.min_cut.proofs.theorems.GusfieldTree.{pivot_lt, pivot_below}

-- Y is a minimum cut of the value of X, agrees with X on the neighbours of t, and holds every other node as its parent
pub record Fitted (G : Net) (i t : ℕ) (p : ℕ → ℕ) (X Y : Side) : Type 0 where
  pub minimum : MinCut G i t Y
  pub value : cut_value G Y ≡ cut_value G X
  pub child : (x : ℕ) → 0 < x → p x ≡ t → Y x ≡ X x
  pub up : 0 < t → Y (p t) ≡ X (p t)
  pub root : 0 < t → Y 0 ≡ X (p t)
  pub far : (x : ℕ) → 0 < x → x ≢ t → p x ≢ t → Y x ≡ Y (p x)

-- X uncrossed with what is not below t, by t's parent u
base : Bool → (ℕ → Side) → (u t : ℕ) → Side → Side
base true Z u t X = uncrossed X (complement (Z t)) u
base false Z u t X = X

-- j is a child of t
child : (ℕ → ℕ) → ℕ → ℕ → Bool
child p t j = ltb 0 j && eqb (p j) t

-- and with the subtrees of t's children below k
fit : (ℕ → ℕ) → (ℕ → Side) → ℕ → Side → ℕ → Side
fit p Z t X zero = base (ltb 0 t) Z (p t) t X
fit p Z t X (suc j) = cond (child p t j) (uncrossed (fit p Z t X j) (Z j) j) (fit p Z t X j)

-- x stands in one of those sides
covered : (ℕ → ℕ) → (ℕ → Side) → ℕ → ℕ → ℕ → Bool
covered p Z t zero x = ltb 0 t && not (Z t x)
covered p Z t (suc j) x = (child p t j && Z j x) || covered p Z t j x

child_facts : (p : ℕ → ℕ) (t j : ℕ) → child p t j ≡ true → (0 < j) × (p j ≡ t)
unfolding child
child_facts p t j e = let h = and_both (ltb 0 j) (eqb (p j) t) e in (ltb-true 0 j h.0, eqb-true (p j) t h.1)

child_is : (p : ℕ → ℕ) (t j : ℕ) → 0 < j → p j ≡ t → child p t j ≡ true
unfolding child
child_is p t j l e = simp (lt-ltb 0 j l, eq-eqb (p j) t e)

module _ (G : Net) (i : ℕ) (p w : ℕ → ℕ) (Z : ℕ → Side) (r : ℕ → ℕ) (T : Tree G i p w Z r)
    (t : ℕ) (et : p i ≡ t) (X : Side) (c : MinCut G i t X) where
  t_lt : t < i
  t_lt = pivot_lt G i p w Z r T t et

  below : 0 < t → (x : ℕ) → 0 < x → p x ≡ t → x ≢ t → Z t x ≡ true
  below = pivot_below G i p w Z r T t et

  child_ne : 0 < t → (x : ℕ) → p x ≡ t → x ≢ t
  child_ne l x q e = true≢false (sym (T.minimum t l t_lt).inside ∙ ap (Z t) (sym q ∙ ap p e) ∙ (T.minimum t l t_lt).outside)

  -- a neighbour's side does not hold t
  away : (k : ℕ) → k < i → child p t k ≡ true → Z k t ≡ false
  away k l e = let q = child_facts p t k e in sym (ap (Z k) q.1) ∙ (T.minimum k q.0 l).outside

  -- nor another neighbour
  away_child : (k x : ℕ) → k < i → child p t k ≡ true → 0 < x → p x ≡ t → x ≢ k → Z k x ≡ false
  away_child k x l e xl q n = T.down k x (child_facts p t k e).0 l xl n ∙ ap (Z k) q ∙ away k l e

  -- nor t's parent
  away_up : (k : ℕ) → k < i → child p t k ≡ true → 0 < t → Z k (p t) ≡ false
  away_up k l e tl = go (ℕ_discrete t k)
    where
      go : Dec (t ≡ k) → Z k (p t) ≡ false
      go (yes q) = absurd (true≢false (sym (T.minimum k (child_facts p t k e).0 l).inside ∙ ap (Z k) (sym q) ∙ away k l e))
      go (no n) = sym (T.down k t (child_facts p t k e).0 l tl n) ∙ away k l e

  fit_minimum : (k : ℕ) → k ≤ i → MinCut G i t (fit p Z t X k)
  unfolding fit base
  fit_minimum zero l = go (ltb 0 t) refl
    where
      go : (b : Bool) → ltb 0 t ≡ b → MinCut G i t (base b Z (p t) t X)
      go true e =
          uncrossed_minimum G (p t) i t (complement (Z t)) X (complement_minimum G t (p t) (Z t) (T.minimum t (ltb-true _ _ e) t_lt))
          (simp (below (ltb-true 0 t e) i T.one et (omega (arith, t_lt)))) c
      go false e = c
  fit_minimum (suc k) l = go (child p t k) refl (fit_minimum k (omega arith))
    where
      go : (b : Bool) → child p t k ≡ b → MinCut G i t (fit p Z t X k)
          → MinCut G i t (cond b (uncrossed (fit p Z t X k) (Z k) k) (fit p Z t X k))
      go true e h =
          uncrossed_minimum G k i t (Z k) (fit p Z t X k)
          (subst (λ u. MinCut G k u (Z k)) (child_facts p t k e).1 (T.minimum k (child_facts p t k e).0 l))
          (away_child k i l e T.one et (omega arith)) h
      go false e h = h

  -- the neighbours below t are where X has them
  fit_child : (k : ℕ) → k ≤ i → (x : ℕ) → 0 < x → p x ≡ t → fit p Z t X k x ≡ X x
  unfolding fit base uncrossed
  fit_child zero l x xl q = go (ltb 0 t) refl
    where
      go : (b : Bool) → ltb 0 t ≡ b → base b Z (p t) t X x ≡ X x
      go true e = uncrossed_out X (complement (Z t)) (p t) x (simp (below (ltb-true 0 t e) x xl q (child_ne (ltb-true 0 t e) x q)))
      go false e = refl
  fit_child (suc k) l x xl q = go (child p t k) refl (fit_child k (omega arith) x xl q) (ℕ_discrete x k)
    where
      go : (b : Bool) → child p t k ≡ b → fit p Z t X k x ≡ X x → Dec (x ≡ k)
          → cond b (uncrossed (fit p Z t X k) (Z k) k) (fit p Z t X k) x ≡ X x
      go true e h (yes n) =
          ap (uncrossed (fit p Z t X k) (Z k) k) n ∙ uncrossed_own (fit p Z t X k) (Z k) k ∙ ap (fit p Z t X k) (sym n) ∙ h
      go true e h (no n) = uncrossed_out (fit p Z t X k) (Z k) k x (away_child k x l e xl q n) ∙ h
      go false e h d = h

  -- t's parent is where X has it, and 0 with it
  fit_up : (k : ℕ) → k ≤ i → 0 < t → fit p Z t X k (p t) ≡ X (p t)
  unfolding fit base
  fit_up zero l tl = rw (lt-ltb 0 t tl) (uncrossed_own X (complement (Z t)) (p t))
  fit_up (suc k) l tl = go (child p t k) refl (fit_up k (omega arith) tl)
    where
      go : (b : Bool) → child p t k ≡ b → fit p Z t X k (p t) ≡ X (p t)
          → cond b (uncrossed (fit p Z t X k) (Z k) k) (fit p Z t X k) (p t) ≡ X (p t)
      go true e h = uncrossed_out (fit p Z t X k) (Z k) k (p t) (away_up k l e tl) ∙ h
      go false e h = h

  fit_root : (k : ℕ) → k ≤ i → 0 < t → fit p Z t X k 0 ≡ X (p t)
  unfolding fit base
  fit_root zero l tl = rw (lt-ltb 0 t tl) (uncrossed_in X (complement (Z t)) (p t) 0 (simp (T.root t tl t_lt)))
  fit_root (suc k) l tl = go (child p t k) refl (fit_root k (omega arith) tl)
    where
      go : (b : Bool) → child p t k ≡ b → fit p Z t X k 0 ≡ X (p t) → cond b (uncrossed (fit p Z t X k) (Z k) k) (fit p Z t X k) 0 ≡ X (p t)
      go true e h = uncrossed_out (fit p Z t X k) (Z k) k 0 (T.root k (child_facts p t k e).0 l) ∙ h
      go false e h = h

  -- a node in one of the sides, and no neighbour, is where its parent is
  fit_covered : (k : ℕ) → k ≤ i → (x : ℕ) → 0 < x → x ≢ t → p x ≢ t → covered p Z t k x ≡ true → fit p Z t X k x ≡ fit p Z t X k (p x)
  unfolding fit base covered
  fit_covered zero l x xl n m = go (ltb 0 t) refl (Z t x) refl
    where
      go : (b : Bool) → ltb 0 t ≡ b → (z : Bool) → Z t x ≡ z → b && not z ≡ true → base b Z (p t) t X x ≡ base b Z (p t) t X (p x)
      go true e false q h =
          uncrossed_in X (complement (Z t)) (p t) x (simp q)
          ∙ sym (uncrossed_in X (complement (Z t)) (p t) (p x) (simp (sym (T.down t x (ltb-true _ _ e) t_lt xl n) ∙ q)))
      go true e true q h = absurd (true≢false (sym h))
      go false e z q h = absurd (true≢false (sym h))
  fit_covered (suc k) l x xl n m = go (child p t k) refl (Z k x) refl (fit_covered k (omega arith) x xl n m)
    where
      same : child p t k ≡ true → Z k x ≡ Z k (p x)
      same e = T.down k x (child_facts p t k e).0 l xl (λ q. m (ap p q ∙ (child_facts p t k e).1))

      go : (b : Bool) → child p t k ≡ b → (z : Bool) → Z k x ≡ z → (covered p Z t k x ≡ true → fit p Z t X k x ≡ fit p Z t X k (p x))
          → (b && z) || covered p Z t k x ≡ true
          → cond b (uncrossed (fit p Z t X k) (Z k) k) (fit p Z t X k) x ≡ cond b (uncrossed (fit p Z t X k) (Z k) k) (fit p Z t X k) (p x)
      go true e true q f h = uncrossed_in (fit p Z t X k) (Z k) k x q ∙ sym (uncrossed_in (fit p Z t X k) (Z k) k (p x) (sym (same e) ∙ q))
      go true e false q f h =
          uncrossed_out (fit p Z t X k) (Z k) k x q ∙ f h ∙ sym (uncrossed_out (fit p Z t X k) (Z k) k (p x) (sym (same e) ∙ q))
      go false e z q f h = f h

  covered_base : (k x : ℕ) → 0 < t → Z t x ≡ false → covered p Z t k x ≡ true
  unfolding covered
  covered_base zero x l e = simp (lt-ltb 0 t l, e)
  covered_base (suc k) x l e = or_right (child p t k && Z k x) (covered p Z t k x) (covered_base k x l e)

  covered_at : (k x j : ℕ) → j < k → child p t j ≡ true → Z j x ≡ true → covered p Z t k x ≡ true
  unfolding covered
  covered_at zero x j l e q = absurd (omega arith)
  covered_at (suc k) x j l e q = go (ℕ_discrete j k) (λ m. covered_at k x j m e q)
    where
      go : Dec (j ≡ k) → (j < k → covered p Z t k x ≡ true) → (child p t k && Z k x) || covered p Z t k x ≡ true
      go (yes d) f = simp (← d, e, q)
      go (no d) f = or_right (child p t k && Z k x) (covered p Z t k x) (f (omega arith))

  -- a node is in a side if its parent is
  covered_up : (k x : ℕ) → k ≤ i → 0 < x → x ≢ t → p x ≢ t → covered p Z t k (p x) ≡ true → covered p Z t k x ≡ true
  unfolding covered
  covered_up zero x l xl n m = go (ltb 0 t) refl
    where
      go : (b : Bool) → ltb 0 t ≡ b → b && not (Z t (p x)) ≡ true → b && not (Z t x) ≡ true
      go true e h = rw (T.down t x (ltb-true _ _ e) t_lt xl n) h
      go false e h = h
  covered_up (suc k) x l xl n m = go (child p t k) refl (covered_up k x (omega arith) xl n m)
    where
      go : (b : Bool) → child p t k ≡ b → (covered p Z t k (p x) ≡ true → covered p Z t k x ≡ true)
          → (b && Z k (p x)) || covered p Z t k (p x) ≡ true → (b && Z k x) || covered p Z t k x ≡ true
      go true e f h = rw (T.down k x (child_facts p t k e).0 l xl (λ q. m (ap p q ∙ (child_facts p t k e).1))) (step (Z k (p x)) h f)
        where
          step : (z : Bool) → z || covered p Z t k (p x) ≡ true → (covered p Z t k (p x) ≡ true → covered p Z t k x ≡ true)
              → z || covered p Z t k x ≡ true
          step true h f = refl
          step false h f = f h
      go false e f h = f h

  cover : (q x : ℕ) → r x < q → 0 < x → x < i → x ≢ t → covered p Z t i x ≡ true
  cover zero x l xl xi n = absurd (omega arith)
  cover (suc q) x l xl xi n = go (ℕ_discrete (p x) t) (ℕ_discrete (p x) 0) (cover q (p x))
    where
      go : Dec (p x ≡ t) → Dec (p x ≡ 0) → (r (p x) < q → 0 < p x → p x < i → p x ≢ t → covered p Z t i (p x) ≡ true)
          → covered p Z t i x ≡ true
      go (yes e) d f = covered_at i x x xi (child_is p t x xl e) (T.minimum x xl xi).inside
      go (no m) (yes e) f =
          let tl : 0 < t = omega arith in
          covered_base i x tl (T.down t x tl t_lt xl n ∙ ap (Z t) e ∙ T.root t tl t_lt)
      go (no m) (no e) f = covered_up i x (omega arith) xl n m (f (omega (arith, T.rank x xl)) (omega arith) (T.done x) m)

  -- the whole: where x is no neighbour of t
  fit_far : (x : ℕ) → 0 < x → x ≢ t → p x ≢ t → fit p Z t X i x ≡ fit p Z t X i (p x)
  fit_far x xl n m = fit_covered i (omega arith) x xl n m (go (ℕ_discrete (p x) 0))
    where
      go : Dec (p x ≡ 0) → covered p Z t i x ≡ true
      go (yes e) =
          let tl : 0 < t = omega arith in
          covered_base i x tl (T.down t x tl t_lt xl n ∙ ap (Z t) e ∙ T.root t tl t_lt)
      go (no e) = covered_up i x (omega arith) xl n m (cover (suc (r (p x))) (p x) (omega arith) (omega arith) (T.done x) m)

  fitted_value : (Y : Side) → MinCut G i t Y → cut_value G Y ≡ cut_value G X
  fitted_value Y y = omega (arith, y.least X c.inside c.outside, c.least Y y.inside y.outside)

  -- the side that the tree gets between i and t
  pub fitted : (Y : Side) × Fitted G i t p X Y
  fitted =
      let y : MinCut G i t (fit p Z t X i) = fit_minimum i (omega arith) in (
        fit p Z t X i,
        record {
          minimum = y;
          value = fitted_value (fit p Z t X i) y;
          child = fit_child i (omega arith);
          up = fit_up i (omega arith);
          root = fit_root i (omega arith);
          far = fit_far;
        },
      )
