-- Each definition at small values.
use Rattle.std.specs.Prelude.{◌≡◌, refl, true, false, not, [], ◌∷◌, ℕ, ◌+◌, ltb}
use Rattle.base.specs.Basics.{all, every, blank, blank_from, differ, among, same}
use Rattle.base.specs.Sum.{sum}
use Rattle.base.specs.Checks.{row, chain, accepted}
use Rattle.base.specs.Word.{holds, word}

-- ---- the small tools
tests : (every (true ∷ true ∷ []) ≡ true) × (every (true ∷ false ∷ []) ≡ false) × (every (false ∷ true ∷ []) ≡ false)
unfolding every
tests = (refl, refl, refl)

places : (blank_from 2 (7 ∷ 7 ∷ 0 ∷ 0 ∷ []) ≡ true) × (blank_from 1 (7 ∷ 7 ∷ 0 ∷ 0 ∷ []) ≡ false)
    × (blank_from 2 (7 ∷ 7 ∷ 0 ∷ 7 ∷ []) ≡ false) × (blank_from 9 (7 ∷ []) ≡ true)
unfolding blank
places = (refl, refl, refl, refl)

-- the first row that holds; 0 where none does
rows : (chain (row false 1 ∷ row true 2 ∷ row true 3 ∷ []) ≡ 2) × (chain (row false 1 ∷ row false 2 ∷ []) ≡ 0)
rows = (refl, refl)

by_number : (accepted 0 7 (λ (e : ℕ). e) ≡ 7) × (accepted 5 7 (λ (e : ℕ). e) ≡ 5)
by_number = (refl, refl)

differ_table : (differ true true ≡ false) × (differ true false ≡ true) × (differ false true ≡ true)
    × (differ false false ≡ false)
differ_table = (refl, refl, refl, refl)

-- 13 is {0, 2, 3}
bits_of_13 : (holds 13 0 ≡ true) × (holds 13 1 ≡ false) × (holds 13 2 ≡ true) × (holds 13 3 ≡ true)
    × (holds 13 4 ≡ false)
unfolding holds
bits_of_13 = (refl, refl, refl, refl, refl)

-- the word of the first n places has no other
word_of_13 : (word 4 (holds 13) ≡ 13) × (word 3 (holds 13) ≡ 5) × (word 4 (λ i. not (holds 13 i)) ≡ 2)
unfolding holds word
word_of_13 = (refl, refl, refl)

-- f 0 + f 1 + f 2
sums : (sum 3 (λ k. k + 1) ≡ 6) × (sum 0 (λ k. k + 1) ≡ 0)
unfolding sum
sums = (refl, refl)

members : (among 5 (7 ∷ 5 ∷ []) ≡ true) × (among 6 (7 ∷ 5 ∷ []) ≡ false) × (among 0 [] ≡ false)
unfolding among
members = (refl, refl, refl)

lists : (same (1 ∷ 2 ∷ []) (1 ∷ 2 ∷ []) ≡ true) × (same (1 ∷ 2 ∷ []) (1 ∷ []) ≡ false)
    × (same (1 ∷ []) (2 ∷ []) ≡ false)
unfolding same
lists = (refl, refl, refl)

below : (all 3 (λ k. ltb k 3) ≡ true) × (all 3 (λ k. ltb k 2) ≡ false) × (all 0 (λ k. false) ≡ true)
unfolding all
below = (refl, refl, refl)
