-- The window's four characters (docs/SCOPE.md, 6): "the headroom right-aligned with one digit of tenths from −9.9 to
-- 99.9, `LOW ` below, `HIGH` above".
use Rattle.std.specs.Prelude.{ℕ, List, [], ◌∷◌, ℤ, pos, negsuc}
use Rattle.std.specs.Int.Signed.{lt_z}
use Rattle.base.specs.Basics.{pick}
use Rattle.text.specs.Text.{right_aligned, numeral}

abbrev pub window_width : ℕ
window_width = 4

-- −9.9 and 99.9, in tenths: −99 and 999
abbrev pub lowest_shown : ℤ
lowest_shown = negsuc 98

abbrev pub highest_shown : ℤ
highest_shown = pos 999

-- `LOW ` and `HIGH`
abbrev pub low : List ℕ
low = 76 ∷ 79 ∷ 87 ∷ 32 ∷ []

abbrev pub high : List ℕ
high = 72 ∷ 73 ∷ 71 ∷ 72 ∷ []

-- the numeral is that of the headroom's own text
unfoldable pub window_text : ℤ → List ℕ
window_text z =
    pick (lt_z z lowest_shown) low (pick (lt_z highest_shown z) high (right_aligned window_width (numeral z)))
