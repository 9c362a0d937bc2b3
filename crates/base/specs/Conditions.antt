-- What the tests of a table of checks say, row by row, and when each number is given: "under its condition and no
-- other".
use Rattle.std.specs.Prelude.{ℕ, ◌≡◌, ◌↔◌, Bool, true, false, not, ◌&&◌, List, [], ◌∷◌, eqb}
use Rattle.base.specs.Basics.{pick}
use Rattle.base.specs.Checks.{Row, Given}

-- each row's test in words: it holds exactly where H does, and fails exactly where F does
pub data Meaning : List Row → Type 1 where
  end : Meaning []
  means : {b : Bool} {rs : List Row} (n : ℕ) (H F : Type 0) → (b ≡ true) ↔ H → (b ≡ false) ↔ F → Meaning rs
      → Meaning (record { when = b; number = n } ∷ rs)

abbrev pub own_or_later : Bool → (H F later : Type 0) → Type 0
own_or_later true H F later = H
own_or_later false H F later = F × later

-- a number's condition: the rows before its own fail, and its own holds
abbrev pub When : {rs : List Row} → Meaning rs → ℕ → Type 0
When end n = 0 ≡ n
When (means m H F h f rest) n = own_or_later (eqb m n) H F (When rest n)

-- accepted: all rows fail
abbrev pub Passes : {rs : List Row} → Meaning rs → Type 0
Passes end = Unit {0}
Passes (means n H F h f end) = F
Passes (means n H F h f (means m I G i g rest)) = F × Passes (means m I G i g rest)

-- n is the number of none of the rows, and not 0
unfoldable pub absent : ℕ → List Row → Bool
absent n [] = not (eqb 0 n)
absent n (r ∷ rs) = not (eqb r.number n) && absent n rs

-- no two rows have the number n
unfoldable pub single : ℕ → List Row → Bool
single n [] = true
single n (r ∷ rs) = pick (eqb r.number n) (absent n rs) (single n rs)

-- a reply's number is that of these rows: of the first that holds, each under its condition and no other; 0 where all
-- fail
pub record Numbered {rs : List Row} (table : Meaning rs) (number : ℕ) : Type 0 where
  pub given : Given rs number
  pub exactly : (n : ℕ) → single n rs ≡ true → (number ≡ n) ↔ When table n
  pub accepted : (number ≡ 0) ↔ Passes table
