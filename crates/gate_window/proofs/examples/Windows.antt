-- Worked examples: the request's, the ends of the range, and what is shown beside them.
use Rattle.std.specs.Prelude.{◌≡◌, refl, [], ◌∷◌, pos, negsuc}
use Rattle.text.specs.Text.{digits}
use Rattle.gate_window.specs.Shown.{window_text}
use Rattle.gate_window.specs.Shows.{tenths_in}

-- half a megabit short: "-0.5", and as much to spare: " 0.5"
pub halves : (window_text (negsuc 4) ≡ 45 ∷ 48 ∷ 46 ∷ 53 ∷ []) × (window_text (pos 5) ≡ 32 ∷ 48 ∷ 46 ∷ 53 ∷ [])
unfolding digits window_text
halves = (refl, refl)

-- " 0.0", "-0.1", " 9.9", "10.0"
pub around : (window_text (pos 0) ≡ 32 ∷ 48 ∷ 46 ∷ 48 ∷ []) × (window_text (negsuc 0) ≡ 45 ∷ 48 ∷ 46 ∷ 49 ∷ [])
    × (window_text (pos 99) ≡ 32 ∷ 57 ∷ 46 ∷ 57 ∷ []) × (window_text (pos 100) ≡ 49 ∷ 48 ∷ 46 ∷ 48 ∷ [])
unfolding digits window_text
around = (refl, refl, refl, refl)

-- "-9.9" and "LOW ": -99 and -100 tenths
pub lowest : (window_text (negsuc 98) ≡ 45 ∷ 57 ∷ 46 ∷ 57 ∷ []) × (window_text (negsuc 99) ≡ 76 ∷ 79 ∷ 87 ∷ 32 ∷ [])
unfolding digits window_text
lowest = (refl, refl)

-- "99.9" and "HIGH": 999 and 1000 tenths
pub highest : (window_text (pos 999) ≡ 57 ∷ 57 ∷ 46 ∷ 57 ∷ []) × (window_text (pos 1000) ≡ 72 ∷ 73 ∷ 71 ∷ 72 ∷ [])
unfolding digits window_text
highest = (refl, refl)

-- the ends of what a headroom can be, -100,000,000.0 and 204,800,000.0
pub ends : (window_text (negsuc 999999999) ≡ 76 ∷ 79 ∷ 87 ∷ 32 ∷ []) × (window_text (pos 2048000000) ≡ 72 ∷ 73 ∷ 71 ∷ 72 ∷ [])
unfolding digits window_text
ends = (refl, refl)

-- what a reader finds in "-0.5", " 0.5" and "12.3"
pub found : (tenths_in (45 ∷ 48 ∷ 46 ∷ 53 ∷ []) ≡ negsuc 4) × (tenths_in (32 ∷ 48 ∷ 46 ∷ 53 ∷ []) ≡ pos 5)
    × (tenths_in (49 ∷ 50 ∷ 46 ∷ 51 ∷ []) ≡ pos 123)
unfolding tenths_in
found = (refl, refl, refl)
