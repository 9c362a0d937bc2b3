-- A step of Gusfield's rule keeps the invariant: s goes beside its pivot t, or between t and t's parent.
use Rattle.std.specs.Prelude.{◌≡◌, refl, ◌≢◌, Bool, true, not, ℕ, suc, ◌+◌, ◌<◌}
use Rattle.std.proofs.Math.Path.{sym, ap}
use Rattle.std.proofs.Common.{subst, ◌∙◌, true≢false, arith}
use Rattle.std.proofs.Math.Bool.{false}
use Rattle.std.proofs.Math.Decide.{ℕ_discrete}
use Rattle.base.proofs.laws.Put.{put, put_same, put_other}
use Rattle.min_cut.specs.Cut.{Net, Side, cut_value, complement, MinCut}
use Rattle.min_cut.proofs.laws.CutLaws.{cut_value_complement, complement_minimum}
use Rattle.min_cut.proofs.laws.Uncross.{graft, lift}
use Rattle.base.specs.Word.{bit}
use Rattle.min_cut.specs.GusfieldTree.{Tree, IsCutTree, Goes, along, stays, far}
use Rattle.min_cut.proofs.theorems.GusfieldTree.{pivot_lt, pivot_below}
use Rattle.min_cut.proofs.laws.GusfieldUncross.{Fitted, fitted}

module _ (G : Net) (i : ℕ) (p w : ℕ → ℕ) (Z : ℕ → Side) (r : ℕ → ℕ) (T : Tree G i p w Z r)
    (t : ℕ) (et : p i ≡ t) (X : Side) (c : MinCut G i t X) where
  t_lt : t < i
  t_lt = pivot_lt G i p w Z r T t et

  -- X made to fit the tree
  Y : Side
  Y = (fitted G i p w Z r T t et X c).0

  F : Fitted G i t p X Y
  unfolding Y
  F = (fitted G i p w Z r T t et X c).1

  -- a side of the tree has i where it has t
  beside : (y : ℕ) → 0 < y → y < i → Z y i ≡ Z y t
  beside y l m = T.down y i l m T.one (omega arith) ∙ ap (Z y) et

  -- Z y serves for y's new parent
  moved : (p' : ℕ → ℕ) (y : ℕ) → 0 < y → y < i → Goes p p' X i t y → MinCut G y (p' y) (Z y)
  moved p' y l m (along q e f) =
      let h : MinCut G y t (Z y) = subst (λ u. MinCut G y u (Z y)) q (T.minimum y l m) in
      rw f (graft G y i t (Z y) X h (beside y l m ∙ h.outside) c e)
  moved p' y l m (stays q e f) = rw f (subst (λ u. MinCut G y u (Z y)) q (T.minimum y l m))
  moved p' y l m (far q f) = rw f (T.minimum y l m)

  -- and is a side of the new tree
  moved_down : (p' : ℕ → ℕ) (y x : ℕ) → 0 < y → y < i → 0 < x → x ≢ y → Goes p p' X i t x → Z y x ≡ Z y (p' x)
  moved_down p' y x l m xl n (along q e f) = T.down y x l m xl n ∙ ap (Z y) q ∙ sym (beside y l m) ∙ ap (Z y) (sym f)
  moved_down p' y x l m xl n (stays q e f) = T.down y x l m xl n ∙ ap (Z y) (q ∙ sym f)
  moved_down p' y x l m xl n (far q f) = T.down y x l m xl n ∙ ap (Z y) (sym f)

  -- and so is Y, if it holds a node that is no child of t as its parent
  moved_fitted : (p' : ℕ → ℕ) (x : ℕ) → 0 < x → (p x ≢ t → Y x ≡ Y (p x)) → Goes p p' X i t x → Y x ≡ Y (p' x)
  moved_fitted p' x l h (along q e f) = F.child x l q ∙ e ∙ sym F.minimum.inside ∙ ap Y (sym f)
  moved_fitted p' x l h (stays q e f) = F.child x l q ∙ e ∙ sym F.minimum.outside ∙ ap Y (sym f)
  moved_fitted p' x l h (far q f) = h q ∙ ap Y (sym f)

  goes_done : (p' : ℕ → ℕ) (x : ℕ) → Goes p p' X i t x → p' x < suc i
  goes_done p' x (along q e f) = omega arith
  goes_done p' x (stays q e f) = omega (arith, t_lt)
  goes_done p' x (far q f) = omega (arith, T.done x)

  goes_home : (p' : ℕ → ℕ) → Goes p p' X i t 0 → p' 0 ≡ 0
  goes_home p' (along q e f) = absurd (true≢false (sym e ∙ ap X (sym T.home ∙ q) ∙ c.outside))
  goes_home p' (stays q e f) = f ∙ sym q ∙ T.home
  goes_home p' (far q f) = f ∙ T.home

  module _ (p' w' : ℕ → ℕ) (no_up : X (p t) ≡ false) (goes : (x : ℕ) → x ≢ i → Goes p p' X i t x) (own : p' i ≡ t)
      (wi : w' i ≡ cut_value G X) (wo : (y : ℕ) → y ≢ i → w' y ≡ w y) where
    Z₁ : ℕ → Side
    Z₁ = put Z i Y

    r₁ : ℕ → ℕ
    r₁ = put (λ x. r x + bit (Y x)) i (r t + 1)

    r₁-own : r₁ i ≡ r t + 1
    unfolding r₁
    r₁-own = put_same (λ x. r x + bit (Y x)) i (r t + 1)

    r₁-in : (x : ℕ) → x ≢ i → Y x ≡ true → r₁ x ≡ r x + 1
    unfolding r₁
    r₁-in x n e = put_other (λ x. r x + bit (Y x)) i (r t + 1) x n ∙ rw e

    r₁-out : (x : ℕ) → x ≢ i → Y x ≡ false → r₁ x ≡ r x
    unfolding r₁
    r₁-out x n e = put_other (λ x. r x + bit (Y x)) i (r t + 1) x n ∙ rw e (omega arith)

    t_ne : t ≢ i
    t_ne = omega (arith, t_lt)

    Y_far : (x : ℕ) → 0 < x → p x ≢ t → Y x ≡ Y (p x)
    Y_far x l q = go (ℕ_discrete x t)
      where
        go : Dec (x ≡ t) → Y x ≡ Y (p x)
        go (no m) = F.far x l m q
        go (yes m) =
            ap Y m ∙ F.minimum.outside ∙ sym no_up ∙ sym (F.up (subst (λ k. 0 < k) m l)) ∙ ap Y (ap p (sym m))

    rank₁ : (x : ℕ) → 0 < x → r₁ (p' x) < r₁ x
    rank₁ x l = go (ℕ_discrete x i)
      where
        same : (x : ℕ) → 0 < x → x ≢ i → (b : Bool) → Y x ≡ b → Goes p p' X i t x → Y x ≡ Y (p' x) → r₁ (p' x) < r₁ x
        same x l n true e (along q a f) s = rw f (omega (arith, r₁-own, r₁-in x n e, T.rank x l, ap r q))
        same x l n false e (along q a f) s = absurd (true≢false (sym a ∙ sym (F.child x l q) ∙ e))
        same x l n b e (stays q a f) s =
            rw f (omega (
              arith,
              r₁-out t t_ne F.minimum.outside,
              r₁-out x n (F.child x l q ∙ a),
              T.rank x l,
              ap r q,
            ))
        same x l n true e (far q f) s =
            rw f (omega (
              arith,
              r₁-in x n e,
              r₁-in (p x) (omega (arith, T.done x)) (ap Y (sym f) ∙ sym s ∙ e),
              T.rank x l,
            ))
        same x l n false e (far q f) s =
            rw f (omega (
              arith,
              r₁-out x n e,
              r₁-out (p x) (omega (arith, T.done x)) (ap Y (sym f) ∙ sym s ∙ e),
              T.rank x l,
            ))

        go : Dec (x ≡ i) → r₁ (p' x) < r₁ x
        go (yes e) = rw (e, own) (omega (arith, r₁-own, r₁-out t t_ne F.minimum.outside))
        go (no n) = same x l n (Y x) refl (goes x n) (moved_fitted p' x l (Y_far x l) (goes x n))

    root₁ : (y : ℕ) → 0 < y → y < suc i → Z₁ y 0 ≡ false
    unfolding Z₁
    root₁ y l m = go (ℕ_discrete y i)
      where
        low : Dec (t ≡ 0) → Y 0 ≡ false
        low (yes e) = ap Y (sym e) ∙ F.minimum.outside
        low (no n) = F.root (omega arith) ∙ no_up

        go : Dec (y ≡ i) → put Z i Y y 0 ≡ false
        go (yes e) = rw (e, put_same Z i Y) (low (ℕ_discrete t 0))
        go (no n) = rw (put_other Z i Y y n) (T.root y l (omega arith))

    down₁ : (y x : ℕ) → 0 < y → y < suc i → 0 < x → x ≢ y → Z₁ y x ≡ Z₁ y (p' x)
    unfolding Z₁
    down₁ y x l m xl d = go (ℕ_discrete y i) (ℕ_discrete x i)
      where
        go : Dec (y ≡ i) → Dec (x ≡ i) → put Z i Y y x ≡ put Z i Y y (p' x)
        go (yes e) (yes f) = absurd (d (f ∙ sym e))
        go (yes e) (no n) = rw (e, put_same Z i Y) (moved_fitted p' x xl (Y_far x xl) (goes x n))
        go (no n) (yes f) = rw (put_other Z i Y y n, f, own) (beside y l (omega arith))
        go (no n) (no o) = rw (put_other Z i Y y n) (moved_down p' y x l (omega arith) xl d (goes x o))

    minimum₁ : (y : ℕ) → 0 < y → y < suc i → MinCut G y (p' y) (Z₁ y)
    unfolding Z₁
    minimum₁ y l m = go (ℕ_discrete y i)
      where
        go : Dec (y ≡ i) → MinCut G y (p' y) (put Z i Y y)
        go (yes e) = rw (e, put_same Z i Y, own) F.minimum
        go (no n) = rw (put_other Z i Y y n) (moved p' y l (omega arith) (goes y n))

    weight₁ : (y : ℕ) → 0 < y → y < suc i → w' y ≡ cut_value G (Z₁ y)
    unfolding Z₁
    weight₁ y l m = go (ℕ_discrete y i)
      where
        go : Dec (y ≡ i) → w' y ≡ cut_value G (put Z i Y y)
        go (yes e) = rw (e, put_same Z i Y) (wi ∙ sym F.value)
        go (no n) = rw (put_other Z i Y y n) (wo y n ∙ T.weight y l (omega arith))

    done₁ : (x : ℕ) → p' x < suc i
    done₁ x = go (ℕ_discrete x i)
      where
        go : Dec (x ≡ i) → p' x < suc i
        go (yes e) = rw (e, own) (omega (arith, t_lt))
        go (no n) = goes_done p' x (goes x n)

    pub step : IsCutTree G (suc i) p' w'
    step = (
      Z₁,
      r₁,
      record {
        one =
            omega arith;
        home =
            goes_home p' (goes 0 (omega (arith, T.one)));
        done =
            done₁;
        rank = rank₁;
        root = root₁;
        down = down₁;
        minimum = minimum₁;
        weight = weight₁;
      },
    )

  -- where X takes t's parent too, i goes between the two
  module _ (p' w' : ℕ → ℕ) (up : X (p t) ≡ true) (goes : (x : ℕ) → x ≢ i → x ≢ t → Goes p p' X i t x)
      (own : p' i ≡ p t) (under : p' t ≡ i)
      (wi : w' i ≡ w t) (wt : w' t ≡ cut_value G X) (wo : (y : ℕ) → y ≢ i → y ≢ t → w' y ≡ w y) where
    tl : 0 < t
    tl = go (ℕ_discrete t 0)
      where
        go : Dec (t ≡ 0) → 0 < t
        go (yes e) = absurd (true≢false (sym up ∙ ap X (ap p e ∙ T.home ∙ sym e) ∙ c.outside))
        go (no n) = omega arith

    t_minimum : MinCut G t (p t) (Z t)
    t_minimum = T.minimum t tl t_lt

    Z₂ : ℕ → Side
    Z₂ = put (put Z i (Z t)) t (complement Y)

    Z₂-t : Z₂ t ≡ complement Y
    unfolding Z₂
    Z₂-t = put_same (put Z i (Z t)) t (complement Y)

    Z₂-i : Z₂ i ≡ Z t
    unfolding Z₂
    Z₂-i = put_other (put Z i (Z t)) t (complement Y) i (omega (arith, t_lt)) ∙ put_same Z i (Z t)

    Z₂-other : (y : ℕ) → y ≢ i → y ≢ t → Z₂ y ≡ Z y
    unfolding Z₂
    Z₂-other y n m = put_other (put Z i (Z t)) t (complement Y) y m ∙ put_other Z i (Z t) y n

    r₂ : ℕ → ℕ
    r₂ = put (λ x. r x + bit (Z t x)) i (r t)

    r₂-own : r₂ i ≡ r t
    unfolding r₂
    r₂-own = put_same (λ x. r x + bit (Z t x)) i (r t)

    r₂-other : (x : ℕ) → x ≢ i → r₂ x ≡ r x + bit (Z t x)
    unfolding r₂
    r₂-other x n = put_other (λ x. r x + bit (Z t x)) i (r t) x n

    rank₂ : (x : ℕ) → 0 < x → r₂ (p' x) < r₂ x
    rank₂ x l = go (ℕ_discrete x i) (ℕ_discrete x t)
      where
        r_t : r₂ t ≡ r t + 1
        r_t = r₂-other t (omega (arith, t_lt)) ∙ rw t_minimum.inside

        r_up : r₂ (p t) ≡ r (p t)
        r_up = r₂-other (p t) (omega (arith, T.done t)) ∙ rw t_minimum.outside (omega arith)

        same : x ≢ i → x ≢ t → Goes p p' X i t x → r₂ (p' x) < r₂ x
        same n m (along q a f) = rw f (omega (arith, r₂-own, r₂-other x n, T.rank x l, ap r q))
        same n m (stays q a f) =
            rw f (omega (
              arith,
              r_t,
              r₂-other x n,
              ap bit (pivot_below G i p w Z r T t et tl x l q m),
              T.rank x l,
              ap r q,
            ))
        same n m (far q f) =
            rw f (omega (
              arith,
              r₂-other x n,
              r₂-other (p x) (omega (arith, T.done x)),
              ap bit (T.down t x tl t_lt l m),
              T.rank x l,
            ))

        go : Dec (x ≡ i) → Dec (x ≡ t) → r₂ (p' x) < r₂ x
        go (yes e) d = rw (e, own) (omega (arith, r₂-own, r_up, T.rank t tl))
        go (no n) (yes e) = rw (e, under) (omega (arith, r₂-own, r_t))
        go (no n) (no m) = same n m (goes x n m)

    root₂ : (y : ℕ) → 0 < y → y < suc i → Z₂ y 0 ≡ false
    root₂ y l m = go (ℕ_discrete y i) (ℕ_discrete y t)
      where
        go : Dec (y ≡ i) → Dec (y ≡ t) → Z₂ y 0 ≡ false
        go (yes e) d = rw (e, Z₂-i) (T.root t tl t_lt)
        go (no n) (yes e) = rw (e, Z₂-t) (simp (F.root tl, up))
        go (no n) (no o) = rw (Z₂-other y n o) (T.root y l (omega arith))

    down₂ : (y x : ℕ) → 0 < y → y < suc i → 0 < x → x ≢ y → Z₂ y x ≡ Z₂ y (p' x)
    down₂ y x l m xl d = go (ℕ_discrete y i) (ℕ_discrete y t) (ℕ_discrete x i) (ℕ_discrete x t)
      where
        go : Dec (y ≡ i) → Dec (y ≡ t) → Dec (x ≡ i) → Dec (x ≡ t) → Z₂ y x ≡ Z₂ y (p' x)
        go (yes e) dt (yes f) dx = absurd (d (f ∙ sym e))
        go (yes e) dt (no n) (yes f) = rw (e, Z₂-i, f, under) (sym (beside t tl t_lt))
        go (yes e) dt (no n) (no o) = rw (e, Z₂-i) (moved_down p' t x tl t_lt xl o (goes x n o))
        go (no a) (yes e) (yes f) dx = rw (e, Z₂-t, f, own) (ap not (F.minimum.inside ∙ sym up ∙ sym (F.up tl)))
        go (no a) (yes e) (no n) (yes f) = absurd (d (f ∙ sym e))
        go (no a) (yes e) (no n) (no o) = rw (e, Z₂-t) (ap not (moved_fitted p' x xl (F.far x xl o) (goes x n o)))
        go (no a) (no b) (yes f) dx =
            rw (Z₂-other y a b, f, own) (beside y l (omega arith) ∙ T.down y t l (omega arith) tl (λ q. b (sym q)))
        go (no a) (no b) (no n) (yes f) = rw (Z₂-other y a b, f, under) (sym (beside y l (omega arith)))
        go (no a) (no b) (no n) (no o) = rw (Z₂-other y a b) (moved_down p' y x l (omega arith) xl d (goes x n o))

    minimum₂ : (y : ℕ) → 0 < y → y < suc i → MinCut G y (p' y) (Z₂ y)
    minimum₂ y l m = go (ℕ_discrete y i) (ℕ_discrete y t)
      where
        go : Dec (y ≡ i) → Dec (y ≡ t) → MinCut G y (p' y) (Z₂ y)
        go (yes e) d =
            rw (e, Z₂-i, own) (lift G (p t) i t (Z t) X t_minimum (beside t tl t_lt ∙ t_minimum.inside) c up)
        go (no n) (yes e) = rw (e, Z₂-t, under) (complement_minimum G i t Y F.minimum)
        go (no n) (no o) = rw (Z₂-other y n o) (moved p' y l (omega arith) (goes y n o))

    weight₂ : (y : ℕ) → 0 < y → y < suc i → w' y ≡ cut_value G (Z₂ y)
    weight₂ y l m = go (ℕ_discrete y i) (ℕ_discrete y t)
      where
        go : Dec (y ≡ i) → Dec (y ≡ t) → w' y ≡ cut_value G (Z₂ y)
        go (yes e) d = rw (e, Z₂-i) (wi ∙ T.weight t tl t_lt)
        go (no n) (yes e) = rw (e, Z₂-t) (wt ∙ sym F.value ∙ sym (cut_value_complement G Y))
        go (no n) (no o) = rw (Z₂-other y n o) (wo y n o ∙ T.weight y l (omega arith))

    done₂ : (x : ℕ) → p' x < suc i
    done₂ x = go (ℕ_discrete x i) (ℕ_discrete x t)
      where
        go : Dec (x ≡ i) → Dec (x ≡ t) → p' x < suc i
        go (yes e) d = rw (e, own) (omega (arith, T.done t))
        go (no n) (yes e) = rw (e, under) (omega arith)
        go (no n) (no o) = goes_done p' x (goes x n o)

    pub step_up : IsCutTree G (suc i) p' w'
    step_up = (
      Z₂,
      r₂,
      record {
        one =
            omega arith;
        home =
            goes_home p' (goes 0 (omega (arith, T.one)) (omega (arith, tl)));
        done =
            done₂;
        rank = rank₂;
        root = root₂;
        down = down₂;
        minimum = minimum₂;
        weight = weight₂;
      },
    )
