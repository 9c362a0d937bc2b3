-- Texts (docs/SCOPE.md, 6): decimal numbers, and a headroom's: twelve bytes, right-aligned with spaces: a minus only
-- below zero, the whole megabits without leading zeros, a point, one digit of tenths.
use Rattle.std.specs.Prelude.{ℕ, zero, suc, ◌+◌, ◌-◌, ◌/◌, ◌%◌, ◌^◌, List, [], ◌∷◌, ◌++◌, length, replicate, ltb, ℤ}
use Rattle.std.specs.Prelude.{pos, negsuc, nat_abs}
use Rattle.base.specs.Basics.{pick}

-- the decimal digits of n without leading zeros, as bytes; at most this many
unfoldable pub digits : ℕ → ℕ → List ℕ
digits zero n = []
digits (suc left) n =
    let front = digits left (n / 10) in pick (ltb n 10) ((48 + n) ∷ []) (front ++ ((48 + n % 10) ∷ []))

-- a number in decimal; 20 digits hold every number of 64 bits
abbrev pub decimal : ℕ → List ℕ
decimal n = digits 20 n

-- spaces, so that the bytes end at place w
abbrev pub right_aligned : ℕ → List ℕ → List ℕ
right_aligned w xs = replicate (w - length xs) 32 ++ xs

-- a minus only below zero
abbrev pub sign_of : ℤ → List ℕ
sign_of (pos n) = []
sign_of (negsuc n) = 45 ∷ []

-- how many digits n has; at most this many
abbrev pub digits_of : ℕ → ℕ → ℕ
digits_of zero n = 0
digits_of (suc left) n = let front = digits_of left (n / 10) in pick (ltb n 10) 1 (suc front)

-- a sign, the whole part of the largest number of 32 bits with a sign, a point, one digit
abbrev pub text_width : ℕ
text_width = 1 + digits_of 20 (2 ^ 31 / 10) + 2

-- a number of tenths: the sign, the whole megabits, a point, one digit
abbrev pub numeral : ℤ → List ℕ
numeral z = sign_of z ++ (decimal (nat_abs z / 10) ++ (46 ∷ (48 + nat_abs z % 10) ∷ []))

-- the text of a headroom
unfoldable pub text_of : ℤ → List ℕ
text_of z = right_aligned text_width (numeral z)
