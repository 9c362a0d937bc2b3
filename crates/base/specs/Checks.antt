-- The table of checks (docs/SCOPE.md, 8): rows of the table of checks, in its order. "Each is given under its condition
-- and no other."
use Rattle.std.specs.Prelude.{ℕ, zero, suc, ◌≡◌, Bool, true, false, List, [], ◌∷◌}

-- a row: its condition, and its number
pub record Row : Type 0 where
  pub when : Bool
  pub number : ℕ

abbrev pub row : Bool → ℕ → Row
row b n = record { when = b; number = n }

-- the number where the condition holds, else what the later rows say
abbrev pub check : Bool → ℕ → ℕ → ℕ
check true number later = number
check false number later = later

-- the number of the first row whose condition holds; 0, accepted, where none does
abbrev pub chain : List Row → ℕ
chain [] = 0
chain (r ∷ rs) = check r.when r.number (chain rs)

-- by a refusal number: 0 is accepted
abbrev pub accepted : {A : Type 0} → ℕ → A → (ℕ → A) → A
accepted zero x refused = x
accepted (suc e) x refused = refused (suc e)

-- a number is given: the earlier rows' conditions fail and its own holds; or all fail, and it is 0
pub data Given : List Row → ℕ → Type 0 where
  passed : Given [] 0
  here : {b : Bool} {n : ℕ} {rs : List Row} → b ≡ true → Given (record { when = b; number = n } ∷ rs) n
  later : {b : Bool} {n e : ℕ} {rs : List Row} → b ≡ false → Given rs e → Given (record { when = b; number = n } ∷ rs) e
