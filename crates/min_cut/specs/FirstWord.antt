-- The first of the numbers at which a function is least; sides as words, and the least minimum cut (the paper: the
-- least side of (s, t)) as the first word in rising order.
use Rattle.std.specs.Prelude.{Bool, true, false, not, ◌&&◌, ℕ, zero, suc, ◌^◌, ltb}
use Rattle.min_cut.specs.Cut.{Net, cut_value}
use Rattle.base.specs.Word.{holds}

-- k where it may be taken and is better than b
abbrev pub better : Bool → Bool → Bool → ℕ → ℕ → ℕ
better true true true k b = k
better true true false k b = b
better true false less k b = k
better false okb less k b = b

-- the first of the numbers below k that ok takes and at which f is least; 0 where ok takes none
unfoldable pub first : (ℕ → Bool) → (ℕ → ℕ) → ℕ → ℕ
first ok f zero = 0
first ok f (suc k) = better (ok k) (ok (first ok f k)) (ltb (f k) (f (first ok f k))) k (first ok f k)

-- s in, t out
abbrev pub between : ℕ → ℕ → ℕ → Bool
between s t w = holds w s && not (holds w t)

-- the first word below 2 ^ n, in rising order, of the smallest cut value among those that hold s and not t
unfoldable pub least_min_cut : ℕ → Net → ℕ → ℕ → ℕ
least_min_cut n G s t = first (between s t) (λ w. cut_value G (holds w)) (2 ^ n)
