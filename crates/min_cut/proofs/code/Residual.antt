-- What holds of the definitions of specs/code/Residual.antt.
use Rattle.std.specs.Prelude.{◌≡◌, Bool, true, false, ℕ, ◌+◌, ◌≤◌, ◌<◌}
use Rattle.std.proofs.Common.{arith}
use Rattle.std.proofs.Math.Decide.{ℕ_discrete}
use Rattle.base.proofs.laws.Bools.{bool1, bool2}
use Rattle.base.proofs.laws.SumLaws.{sum_ext, sum_zero, sum_term, sum_at}
use Rattle.min_cut.specs.Cut.{Net, Side, crossing, cut_value, ◌⊆◌, MinCut}
use Rattle.min_cut.specs.code.Residual.{At, Closed, Pushed, ResidualFlow, leaving, residual, when}

pub when_none : (x : Bool) → when x 0 ≡ 0
when_none = bool1 _ (omega arith)

pub when_add : (v d : ℕ) (x : Bool) → when x (v + d) ≡ when x v + when x d
when_add v d = bool1 _ (omega arith)

leaving_start : (c : ℕ) (x y : Bool) → leaving x y c c ≡ crossing x y c
leaving_start c = bool2 _ (omega arith)

leaving_ahead : (p q p' q' d : ℕ) → p' + d ≡ p → q' ≡ q + d → (x y : Bool)
    → leaving x y p' q' + when x d ≡ leaving x y p q + when y d
leaving_ahead p q p' q' d e f = bool2 _ (omega arith)

leaving_back : (p q p' q' d : ℕ) → p' ≡ p + d → q' + d ≡ q → (x y : Bool)
    → leaving x y p' q' + when y d ≡ leaving x y p q + when x d
leaving_back p q p' q' d e f = bool2 _ (omega arith)

module _ (G : Net) where
  pub start : (s t : ℕ) → ResidualFlow G s t 0 G.c G.c
  unfolding residual cut_value
  start s t X =
      omega (
        arith,
        sum_ext G.m _ _ (λ k l. leaving_start (G.c k) (X (G.a k)) (X (G.b k))),
        when_none (X s),
        when_none (X t),
      )

  residual_at : (p q p' q' : ℕ → ℕ) (k : ℕ) → k < G.m → At k p q p' q' → (X : Side)
      → residual G p' q' X + leaving (X (G.a k)) (X (G.b k)) (p k) (q k)
      ≡ residual G p q X + leaving (X (G.a k)) (X (G.b k)) (p' k) (q' k)
  unfolding residual
  residual_at p q p' q' k l h X =
      sum_at G.m (λ k. leaving (X (G.a k)) (X (G.b k)) (p' k) (q' k))
      (λ k. leaving (X (G.a k)) (X (G.b k)) (p k) (q k)) k l (λ i n. cc (h.p_other i n, h.q_other i n))

  pub push_ahead : (p q p' q' : ℕ → ℕ) (k d : ℕ) → k < G.m → At k p q p' q' → p' k + d ≡ p k → q' k ≡ q k + d
      → Pushed G (G.a k) (G.b k) d p q p' q'
  push_ahead p q p' q' k d l h e f X =
      omega (
        arith,
        residual_at p q p' q' k l h X,
        leaving_ahead (p k) (q k) (p' k) (q' k) d e f (X (G.a k)) (X (G.b k)),
      )

  pub push_back : (p q p' q' : ℕ → ℕ) (k d : ℕ) → k < G.m → At k p q p' q' → p' k ≡ p k + d → q' k + d ≡ q k
      → Pushed G (G.b k) (G.a k) d p q p' q'
  push_back p q p' q' k d l h e f X =
      omega (
        arith,
        residual_at p q p' q' k l h X,
        leaving_back (p k) (q k) (p' k) (q' k) d e f (X (G.a k)) (X (G.b k)),
      )

  pub pushed_trans : (u w z d : ℕ) (p q p' q' p'' q'' : ℕ → ℕ) → Pushed G u w d p q p' q' → Pushed G w z d p' q' p'' q''
      → Pushed G u z d p q p'' q''
  pushed_trans u w z d p q p' q' p'' q'' h g X = omega (arith, h X, g X)

  -- a flow of v and d more
  pub more : (s t v d : ℕ) (p q p' q' : ℕ → ℕ) → ResidualFlow G s t v p q → Pushed G s t d p q p' q'
      → ResidualFlow G s t (v + d) p' q'
  more s t v d p q p' q' h g X = omega (arith, h X, g X, when_add v d (X s), when_add v d (X t))

  -- of a side between s and t the cut value is over the flow by its residual capacity
  pub over : (s t v : ℕ) (p q : ℕ → ℕ) → ResidualFlow G s t v p q → (X : Side) → X s ≡ true → X t ≡ false
      → residual G p q X + v ≡ cut_value G X
  over s t v p q h X i o = omega (arith, rw (i, o) at (h X))

  pub weak : (s t v : ℕ) (p q : ℕ → ℕ) → ResidualFlow G s t v p q → (X : Side) → X s ≡ true → X t ≡ false
      → v ≤ cut_value G X
  weak s t v p q h X i o = omega (arith, over s t v p q h X i o)

  closed_residual : (p q : ℕ → ℕ) (X : Side) → Closed G p q X → residual G p q X ≡ 0
  unfolding residual
  closed_residual p q X h = sum_zero G.m _ h

  residual_closed : (p q : ℕ → ℕ) (X : Side) → residual G p q X ≡ 0 → Closed G p q X
  unfolding residual
  residual_closed p q X e k l = omega (arith, sum_term G.m (λ k. leaving (X (G.a k)) (X (G.b k)) (p k) (q k)) k l)

  module _ (s t v : ℕ) (p q : ℕ → ℕ) (h : ResidualFlow G s t v p q) (R : Side) (i : R s ≡ true) (o : R t ≡ false)
      (closed : Closed G p q R) where
    -- a closed side between s and t is full: a minimum cut, and the least one if it lies in every closed side of s
    pub full : cut_value G R ≡ v
    full = omega (arith, over s t v p q h R i o, closed_residual p q R closed)

    pub full_minimum : MinCut G s t R
    full_minimum = record { inside = i; outside = o; least = λ X xi xo. omega (arith, full, weak s t v p q h X xi xo) }

    pub full_least : ((Y : Side) → Closed G p q Y → Y s ≡ true → R ⊆ Y) → (Y : Side) → MinCut G s t Y → R ⊆ Y
    full_least r Y y =
        r Y (residual_closed p q Y (omega (arith, full, y.least R i o, over s t v p q h Y y.inside y.outside)))
        y.inside

-- a push keeps the sum of a link's two residual capacities
pub kept : (k d : ℕ) (p q p' q' : ℕ → ℕ) → At k p q p' q' → p' k + d ≡ p k → q' k ≡ q k + d → (i : ℕ)
    → p' i + q' i ≡ p i + q i
kept k d p q p' q' h e f i = go (ℕ_discrete i k)
  where
    go : Dec (i ≡ k) → p' i + q' i ≡ p i + q i
    go (yes n) = rw n (omega arith)
    go (no n) = omega (arith, h.p_other i n, h.q_other i n)
