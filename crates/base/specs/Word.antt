-- A number as a word of bits: the places that it holds, and the word of the first n places of a predicate.
use Rattle.std.specs.Prelude.{Bool, true, false, ℕ, zero, suc, ◌+◌, ◌*◌, ◌/◌, ◌%◌, eqb}

-- bit i of w: a word is the side of its bits
unfoldable pub holds : ℕ → ℕ → Bool
holds w zero = eqb (w % 2) 1
holds w (suc i) = holds (w / 2) i

abbrev pub bit : Bool → ℕ
bit true = 1
bit false = 0

-- the word of a side's first n nodes
unfoldable pub word : ℕ → (ℕ → Bool) → ℕ
word zero X = 0
word (suc n) X = bit (X 0) + 2 * word n (λ i. X (suc i))
