-- The maximum flow and the minimum cut: for every two nodes there is a lawful flow whose total is the value of a
-- minimum cut.
use Rattle.std.specs.Prelude.{◌≡◌, true, false, ℕ, ◌+◌, ◌*◌}
use Rattle.min_cut.specs.Cut.{Net, Side}
use Rattle.min_cut.specs.code.Residual.{Closed, ResidualFlow}

-- a flow in residual form and a side that lets nothing out
pub record Saturated (G : Net) (s t : ℕ) : Type 0 where
  pub v : ℕ
  pub p : ℕ → ℕ
  pub q : ℕ → ℕ
  pub flow : ResidualFlow G s t v p q
  pub both : (k : ℕ) → p k + q k ≡ 2 * G.c k
  pub R : Side
  pub inside : R s ≡ true
  pub outside : R t ≡ false
  pub closed : Closed G p q R
