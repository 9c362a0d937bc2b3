-- Small tools that the definitions are written with: tests, places of a list, and all of several.
use Rattle.std.specs.Prelude.{ℕ, zero, suc, Bool, true, ◌&&◌, cond, false, not, List, [], ◌∷◌, get_or, drop, eqb}

-- one of two values, by a test
abbrev pub pick : {A : Type 0} → Bool → A → A → A
pick = cond

-- element k of an array
abbrev pub at : List ℕ → ℕ → ℕ
at xs k = get_or xs k 0

-- f 0, .., f (m - 1) all hold
unfoldable pub all : ℕ → (ℕ → Bool) → Bool
all zero f = true
all (suc m) f = all m f && f m

-- a list of tests, all of which hold
unfoldable pub every : List Bool → Bool
every [] = true
every (x ∷ xs) = x && every xs

-- every place is 0
unfoldable pub blank : List ℕ → Bool
blank [] = true
blank (x ∷ xs) = eqb x 0 && blank xs

-- the places from n on are 0
abbrev pub blank_from : ℕ → List ℕ → Bool
blank_from n xs = blank (drop n xs)

-- exactly one of the two
abbrev pub differ : Bool → Bool → Bool
differ true y = not y
differ false y = y

-- whether v is one of xs
unfoldable pub among : ℕ → List ℕ → Bool
among v [] = false
among v (x ∷ xs) = pick (eqb v x) true (among v xs)

-- two lists of the same numbers
unfoldable pub same : List ℕ → List ℕ → Bool
same [] [] = true
same [] (y ∷ ys) = false
same (x ∷ xs) [] = false
same (x ∷ xs) (y ∷ ys) = eqb x y && same xs ys
