-- Worked examples: texts of the paper, and the ends of the range.
use Rattle.std.specs.Prelude.{◌≡◌, refl, [], ◌∷◌, pos, negsuc}
use Rattle.text.specs.Text.{digits, decimal, digits_of, text_width, text_of}

-- half a megabit short: "-0.5"
minus_half : text_of (negsuc 4) ≡ 32 ∷ 32 ∷ 32 ∷ 32 ∷ 32 ∷ 32 ∷ 32 ∷ 32 ∷ 45 ∷ 48 ∷ 46 ∷ 53 ∷ []
unfolding text_of digits
minus_half = refl

-- "-1.0"
minus_one : text_of (negsuc 9) ≡ 32 ∷ 32 ∷ 32 ∷ 32 ∷ 32 ∷ 32 ∷ 32 ∷ 32 ∷ 45 ∷ 49 ∷ 46 ∷ 48 ∷ []
unfolding text_of digits
minus_one = refl

-- "0.0"
nothing : text_of (pos 0) ≡ 32 ∷ 32 ∷ 32 ∷ 32 ∷ 32 ∷ 32 ∷ 32 ∷ 32 ∷ 32 ∷ 48 ∷ 46 ∷ 48 ∷ []
unfolding text_of digits
nothing = refl

-- "10.7": the tenth stands behind the point
ten : text_of (pos 107) ≡ 32 ∷ 32 ∷ 32 ∷ 32 ∷ 32 ∷ 32 ∷ 32 ∷ 32 ∷ 49 ∷ 48 ∷ 46 ∷ 55 ∷ []
unfolding text_of digits
ten = refl

-- twelve places, nine of them for the whole part
width : (text_width ≡ 12) × (digits_of 20 999999999 ≡ 9) × (digits_of 20 1000000000 ≡ 10)
width = (refl, refl, refl)

-- the lowest headroom, "-100000000.0", fills all twelve places
lowest : text_of (negsuc 999999999) ≡ 45 ∷ 49 ∷ 48 ∷ 48 ∷ 48 ∷ 48 ∷ 48 ∷ 48 ∷ 48 ∷ 48 ∷ 46 ∷ 48 ∷ []
unfolding text_of digits
lowest = refl

-- the highest, "204800000.0", all but one
highest : text_of (pos 2048000000) ≡ 32 ∷ 50 ∷ 48 ∷ 52 ∷ 56 ∷ 48 ∷ 48 ∷ 48 ∷ 48 ∷ 48 ∷ 46 ∷ 48 ∷ []
unfolding text_of digits
highest = refl

-- the least number of 32 bits, "-214748364.8", fills all twelve places too, and the greatest, "214748364.7", all but
-- one
least : text_of (negsuc 2147483647) ≡ 45 ∷ 50 ∷ 49 ∷ 52 ∷ 55 ∷ 52 ∷ 56 ∷ 51 ∷ 54 ∷ 52 ∷ 46 ∷ 56 ∷ []
unfolding text_of digits
least = refl

greatest : text_of (pos 2147483647) ≡ 32 ∷ 50 ∷ 49 ∷ 52 ∷ 55 ∷ 52 ∷ 56 ∷ 51 ∷ 54 ∷ 52 ∷ 46 ∷ 55 ∷ []
unfolding text_of digits
greatest = refl

decimal_zero : decimal 0 ≡ 48 ∷ []
unfolding digits
decimal_zero = refl

-- the largest word, 18446744073709551615, has all 20 digits
decimal_word : decimal 18446744073709551615 ≡ 49 ∷ 56 ∷ 52 ∷ 52 ∷ 54 ∷ 55 ∷ 52 ∷ 52 ∷ 48 ∷ 55 ∷ 51 ∷ 55 ∷ 48 ∷ 57 ∷ 53
    ∷ 53 ∷ 49 ∷ 54 ∷ 49 ∷ 53 ∷ []
unfolding digits
decimal_word = refl
