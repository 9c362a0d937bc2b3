-- What a search for a word that is not 0 says, of words by their numbers.
use Rattle.std.specs.Prelude.{◌≡◌, refl, ℕ, zero, suc, List, [], ◌∷◌, map, drop, eqb}
use Rattle.std.specs.List.{list_all}
use Rattle.std.proofs.lemmas.List.{map-id}
use Rattle.base.specs.Basics.{blank, blank_from}

all_blank : {A : Type 0} (value : A → ℕ) (xs : List A) → list_all (λ x. eqb (value x) 0) xs ≡ blank (map value xs)
unfolding blank
all_blank value [] = refl
all_blank value (x ∷ xs) = rw (all_blank value xs)

-- of the places from n on
pub blank_skipped : {A : Type 0} (value : A → ℕ) (n : ℕ) (xs : List A)
    → list_all (λ x. eqb (value x) 0) (drop n xs) ≡ blank_from n (map value xs)
blank_skipped value zero xs = all_blank value xs
blank_skipped value (suc n) [] = all_blank value []
blank_skipped value (suc n) (x ∷ xs) = blank_skipped value n xs

-- words that are their own numbers
pub blank_of_words : (n : ℕ) (xs : List ℕ) → blank_from n (map (λ x. x) xs) ≡ blank_from n xs
blank_of_words n xs = rw (map-id xs)
