-- The sum of f 0 to f (m - 1).
use Rattle.std.specs.Prelude.{ℕ, zero, suc, ◌+◌}

unfoldable pub sum : ℕ → (ℕ → ℕ) → ℕ
sum zero f = 0
sum (suc m) f = sum m f + f m
