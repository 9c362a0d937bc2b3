-- A network by its arcs: arc 2k goes from a k to b k, and arc 2k + 1 back. What a search over arcs with residual
-- capacity gives.
use Rattle.std.specs.Prelude.{◌≡◌, Bool, true, cond, ℕ, ◌*◌, ◌/◌, ◌%◌, ◌<◌, eqb}
use Rattle.min_cut.specs.Cut.{Net, Side}

-- e goes from a to b
abbrev pub forward : ℕ → Bool
forward e = eqb (e % 2) 0

unfoldable pub tail : Net → ℕ → ℕ
tail G e = cond (forward e) (G.a (e / 2)) (G.b (e / 2))

unfoldable pub tip : Net → ℕ → ℕ
tip G e = cond (forward e) (G.b (e / 2)) (G.a (e / 2))

-- what may still be sent along arc e
unfoldable pub spare : (p q : ℕ → ℕ) → ℕ → ℕ
spare p q e = cond (forward e) (p (e / 2)) (q (e / 2))

-- no arc with room leaves the side
abbrev pub Shut : Net → (p q : ℕ → ℕ) → Side → Type 0
Shut G p q Y = (e : ℕ) → e < 2 * G.m → 0 < spare p q e → Y (tail G e) ≡ true → Y (tip G e) ≡ true
