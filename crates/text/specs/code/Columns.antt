-- The text of tenths, filled from the right: that it is `text_of` stands in TextLaws, that the code gives it in
-- PlacedLaws.
use Rattle.std.specs.Prelude.{ℕ, zero, suc, ◌+◌, ◌-◌, ◌/◌, ◌%◌, Bool, true, false, List, [], ◌∷◌, ◌++◌, ℤ, pos, negsuc}
use Rattle.text.specs.Text.{text_width}

abbrev pub is_negative : ℤ → Bool
is_negative (pos n) = false
is_negative (negsuc n) = true

-- the byte at the next place to the left, with w still to be written: its last digit; once w has run out, a minus that
-- is still owed, then spaces
unfoldable pub mark_of : ℕ → Bool → ℕ
mark_of zero true = 45
mark_of zero false = 32
mark_of (suc w) owed = 48 + suc w % 10

-- whether a minus is still owed further left
abbrev pub owes : ℕ → Bool → Bool
owes zero owed = false
owes (suc w) owed = owed

-- k bytes, right-aligned
unfoldable pub leading : ℕ → ℕ → Bool → List ℕ
leading zero w owed = []
leading (suc k) w owed = leading k (w / 10) (owes w owed) ++ (mark_of w owed ∷ [])

unfoldable pub tenths_from : ℕ → Bool → List ℕ
tenths_from m negative = leading (text_width - 3) (m / 100) negative ++ ((48 + m / 10 % 10) ∷ 46 ∷ (48 + m % 10) ∷ [])
