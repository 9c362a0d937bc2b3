-- Sets of at most 64 nodes as words: node i is in a set where bit i of its word is 1 (`holds`). A side (docs/SCOPE.md,
-- 3) is such a set.
use Rattle.std.specs.Prelude.{ℕ, ◌-◌, ◌^◌, ◌<◌, ◌≡◌, Bool, true, false, eqb}
use Rattle.std.specs.Int.Bits.{bit_and, bit_or, bit_xor}
use Rattle.std.specs.Int.Count.{ones}
use Rattle.base.specs.Sum.{sum}
use Rattle.base.specs.Word.{bit, holds}

-- how many nodes a word has room for
abbrev pub width : ℕ
width = 64

unfoldable pub empty : ℕ
empty = 0

unfoldable pub single : ℕ → ℕ
single i = 2 ^ i

unfoldable pub added : ℕ → ℕ → ℕ
added x i = bit_or x (2 ^ i)

unfoldable pub removed : ℕ → ℕ → ℕ
removed x i = bit_xor x (bit_and x (2 ^ i))

unfoldable pub union : ℕ → ℕ → ℕ
union x y = bit_or x y

unfoldable pub intersection : ℕ → ℕ → ℕ
intersection x y = bit_and x y

unfoldable pub difference : ℕ → ℕ → ℕ
difference x y = bit_xor x (bit_and x y)

-- the nodes below n
unfoldable pub all_below : ℕ → ℕ
all_below n = 2 ^ n - 1

-- the nodes below n that are not in x
unfoldable pub complement_in : ℕ → ℕ → ℕ
complement_in n x = bit_xor (2 ^ n - 1) x

-- how many of the nodes below n are in x
unfoldable pub size : ℕ → ℕ → ℕ
size n x = sum n (λ i. bit (holds x i))

-- whether every node of x is in y
unfoldable pub included : ℕ → ℕ → Bool
included x y = eqb (bit_and x y) x

-- r is the lowest node of x
pub record Lowest (x r : ℕ) : Type 0 where
  pub here : holds x r ≡ true
  pub none : (j : ℕ) → j < r → holds x j ≡ false
  pub small : r < width

-- r is the number of nodes of x, whichever nodes it is taken among, and the number of ones of the word
pub record Counted (x r : ℕ) : Type 0 where
  pub digits : r ≡ ones x
  pub members : (n : ℕ) → x < 2 ^ n → r ≡ size n x
