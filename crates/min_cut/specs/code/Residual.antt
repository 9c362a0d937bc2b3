-- Flows in residual form: each link has two residual capacities (the paper: spare capacities), one each way.
-- The invariant of a flow for every side, its start, one push, composition; weak duality; what a closed set of reached
-- nodes gives.
use Rattle.std.specs.Prelude.{◌≡◌, ◌≢◌, Bool, true, false, ℕ, ◌+◌, ◌<◌}
use Rattle.base.specs.Sum.{sum}
use Rattle.min_cut.specs.Cut.{Net, Side, cut_value}

-- what may still be sent out of the side by a link with the residual capacities p (a to b) and q (b to a)
abbrev pub leaving : Bool → Bool → ℕ → ℕ → ℕ
leaving true true p q = 0
leaving true false p q = p
leaving false true p q = q
leaving false false p q = 0

-- v where the Bool holds
abbrev pub when : Bool → ℕ → ℕ
when true v = v
when false v = 0

-- the residual capacity that leaves a side
unfoldable pub residual : Net → (p q : ℕ → ℕ) → Side → ℕ
residual G p q X = sum G.m (λ k. leaving (X (G.a k)) (X (G.b k)) (p k) (q k))

-- no link lets anything out of the side
abbrev pub Closed : Net → (p q : ℕ → ℕ) → Side → Type 0
Closed G p q X = (k : ℕ) → k < G.m → leaving (X (G.a k)) (X (G.b k)) (p k) (q k) ≡ 0

-- a flow of v from s to t: of every side the residual capacity is less than the cut value by what the flow sends out of
-- it
abbrev pub ResidualFlow : Net → (s t v : ℕ) → (p q : ℕ → ℕ) → Type 0
ResidualFlow G s t v p q = (X : Side) → residual G p q X + when (X s) v ≡ cut_value G X + when (X t) v

-- d more has been sent from u to w
abbrev pub Pushed : Net → (u w d : ℕ) → (p q p' q' : ℕ → ℕ) → Type 0
Pushed G u w d p q p' q' = (X : Side) → residual G p' q' X + when (X u) d ≡ residual G p q X + when (X w) d

-- only the residual capacities of link k change
pub record At (k : ℕ) (p q p' q' : ℕ → ℕ) : Type 0 where
  pub p_other : (i : ℕ) → i ≢ k → p' i ≡ p i
  pub q_other : (i : ℕ) → i ≢ k → q' i ≡ q i
