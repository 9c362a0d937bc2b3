-- One number of the file: it is refused under a condition of `Faults`, or it stands at its place and passes its row.
use Rattle.std.specs.Prelude.{ℕ, suc, ◌+◌, ◌≤◌, ◌<◌, ◌≡◌, refl, ◌≢◌, Bool, true, false, not, ◌||◌, List, ◌++◌, take, drop, ltb, eqb}
use Rattle.std.proofs.Common.{ap, ◌∙◌, arith, take-add, get_or-drop, ltb-true, ltb-false, eqb-true}
use Rattle.std.proofs.lemmas.Bool.{eqb-false}
use Rattle.base.specs.Checks.{check, accepted}
use Rattle.network.specs.Limits.{max_nodes, max_links, max_capacity, max_groups}
use Rattle.network_file.specs.Number.{refusal_in, value_in, size_in, number_bytes, Bytes}
use Rattle.network_file.specs.Reading.{nodes_row, links_row, end_row, other_end_row, capacity_row, no_number, a_number, taken, taking}
use Rattle.network_file.specs.Faults.{Stands, Field, nodes, links, end, other_end, capacity, number, Wrong, four, five, six, six_later}
use Rattle.network_file.specs.Faults.{seven, eight, Bad, one, two, three, by_row}
use Rattle.network_file.proofs.laws.NumberLaws.{Seen, sees_one, sees_two, sees_three, sees_value, seen, again}
use Rattle.network_file.specs.Number.{Number}
use Rattle.network_file.specs.Reading.{Taken}

-- the row of a capacity, within the present limits
abbrev pub file_row : ℕ → ℕ
file_row = capacity_row max_capacity

-- the reader's row of each number
abbrev pub field_row : Field → ℕ → ℕ
field_row nodes = nodes_row
field_row (links n) = links_row
field_row (end n left) = end_row n
field_row (other_end n left a) = other_end_row n a
field_row (capacity n left) = file_row

abbrev pub Passes : Field → ℕ → Type 0
Passes x v = (e : ℕ) → Wrong x v e → ⊥

-- ---- what a passed row says
pub nodes_passed : (v : ℕ) → Passes nodes v → (1 ≤ v) × (v ≤ max_nodes)
nodes_passed v p =
    let low : v < 1 → ⊥ = λ l. p 4 (four (λ h. omega arith)) in
    let high : max_nodes < v → ⊥ = λ l. p 4 (four (λ h. omega arith)) in
    omega arith

pub links_passed : (n v : ℕ) → Passes (links n) v → v ≤ max_links
links_passed n v p = let h : max_links < v → ⊥ = λ l. p 5 (five l) in omega arith

pub end_passed : (n left v : ℕ) → Passes (end n left) v → v < n
end_passed n left v p = let h : n ≤ v → ⊥ = λ l. p 6 (six l) in omega arith

pub other_end_passed : (n left a v : ℕ) → Passes (other_end n left a) v → (v < n) × (v ≢ a)
other_end_passed n left a v p =
    let h : n ≤ v → ⊥ = λ l. p 6 (six_later l) in
    let below : v < n = omega arith in
    (below, λ e. p 7 (seven below e))

pub capacity_passed : (n left v : ℕ) → Passes (capacity n left) v → v ≤ max_capacity
capacity_passed n left v p = let h : max_capacity < v → ⊥ = λ l. p 8 (eight l) in omega arith

-- ---- the reader's row gives the number of the row that is wrong, and 0 where none is
pub data RowTold (x : Field) (v : ℕ) : ℕ → Type 0 where
  passes : Passes x v → RowTold x v 0
  wrong : {e : ℕ} → Wrong x v (suc e) → RowTold x v (suc e)

nodes_pass : (v : ℕ) → v ≢ 0 → v ≤ max_nodes → Passes nodes v
nodes_pass v n l e (four f) = f (omega arith)

links_pass : (n v : ℕ) → v ≤ max_links → Passes (links n) v
links_pass n v l e (five h) = omega arith

end_pass : (n left v : ℕ) → v < n → Passes (end n left) v
end_pass n left v l e (six h) = omega arith

other_end_pass : (n left a v : ℕ) → v < n → v ≢ a → Passes (other_end n left a) v
other_end_pass n left a v l d e (six_later h) = omega arith
other_end_pass n left a v l d e (seven h q) = d q

capacity_pass : (n left v : ℕ) → v ≤ max_capacity → Passes (capacity n left) v
capacity_pass n left v l e (eight h) = omega arith

row_told : (x : Field) (v : ℕ) → RowTold x v (field_row x v)
row_told nodes v = go (eqb v 0) (ltb max_nodes v) refl refl
  where
    go : (b d : Bool) → eqb v 0 ≡ b → ltb max_nodes v ≡ d → RowTold nodes v (check (b || d) 4 0)
    go true d e f = wrong (four {v = v} (λ h. omega (arith, eqb-true v 0 e)))
    go false true e f = wrong (four {v = v} (λ h. omega (arith, ltb-true max_nodes v f)))
    go false false e f = passes (nodes_pass v (eqb-false v 0 e) (ltb-false max_nodes v f))
row_told (links n) v = go (ltb max_links v) refl
  where
    go : (b : Bool) → ltb max_links v ≡ b → RowTold (links n) v (check b 5 0)
    go true e = wrong (five (ltb-true max_links v e))
    go false e = passes (links_pass n v (ltb-false max_links v e))
row_told (end n left) v = go (ltb v n) refl
  where
    go : (b : Bool) → ltb v n ≡ b → RowTold (end n left) v (check (not b) 6 0)
    go true e = passes (end_pass n left v (ltb-true v n e))
    go false e = wrong (six (ltb-false v n e))
row_told (other_end n left a) v = go (ltb v n) (eqb v a) refl refl
  where
    go : (b d : Bool) → ltb v n ≡ b → eqb v a ≡ d → RowTold (other_end n left a) v (check (not b) 6 (check d 7 0))
    go false d e f = wrong (six_later (ltb-false v n e))
    go true true e f = wrong (seven (ltb-true v n e) (eqb-true v a f))
    go true false e f = passes (other_end_pass n left a v (ltb-true v n e) (eqb-false v a f))
row_told (capacity n left) v = go (ltb max_capacity v) refl
  where
    go : (b : Bool) → ltb max_capacity v ≡ b → RowTold (capacity n left) v (check b 8 0)
    go true e = wrong (eight (ltb-true max_capacity v e))
    go false e = passes (capacity_pass n left v (ltb-false max_capacity v e))

-- ---- 1 to 3, then its row
pub data Took (s : List ℕ) (place : ℕ) (x : Field) : Taken → Type 0 where
  stops : {e : ℕ} → Bad s place (number x) (suc e) → Took s place x (no_number (suc e) place)
  goes : {v size : ℕ} → Stands s place v size → Passes x v → Took s place x (a_number v (place + size))

module _ (s : List ℕ) (place : ℕ) (x : Field) where
  by_its_row : {v size e : ℕ} → Stands s place v size → RowTold x v e
      → Took s place x (accepted e (a_number v (place + size)) (λ e. no_number e place))
  by_its_row st (passes p) = goes st p
  by_its_row st (wrong w) = stops (by_row st w)

  by_number : {r : Number} → Seen max_groups (drop place s) r
      → Took s place x (accepted (check (ltb 0 (refusal_in r)) (refusal_in r) (field_row x (value_in r)))
      (a_number (value_in r) (place + size_in r)) (λ e. no_number e place))
  by_number (sees_one h) = stops (one h)
  by_number (sees_two h) = stops (two h)
  by_number (sees_three h) = stops (three h)
  by_number (sees_value {v = v} g l) = by_its_row (record { groups = g; few = l }) (row_told x v)

  pub took : Took s place x (taken max_groups s place (field_row x))
  unfolding taken
  took = by_number (seen max_groups (drop place s))

-- so of whatever is made by `taking`: a fact holds of it, if it holds where the number is refused, and where it stands and passes
module _ {A : Type 0} (P : A → Type 0) (s : List ℕ) (place : ℕ) (x : Field) (stop next : ℕ → ℕ → A)
    (refused : (e : ℕ) → Bad s place (number x) (suc e) → P (stop (suc e) place))
    (passed : (v size : ℕ) → Stands s place v size → Passes x v → P (next v (place + size))) where
  by_case : {t : Taken} → Took s place x t → P (accepted t.number (next t.value t.next) (λ e. stop e place))
  by_case (stops {e} b) = refused e b
  by_case (goes {v} {size} st p) = passed v size st p

  pub by_taking : P (taking max_groups s place (field_row x) stop next)
  by_taking = by_case (took s place x)

-- ---- of a file of bytes: what was read up to a place, and a number more
pub stands_written : (s : List ℕ) (place v size : ℕ) → Bytes s → Stands s place v size
    → take (place + size) s ≡ take place s ++ number_bytes v
stands_written s place v size b st =
    let rest : Bytes (drop place s) = λ i. rw get_or-drop (b (place + i)) in
    take-add place size s ∙ ap (λ (l : List ℕ). take place s ++ l) (again st.groups rest max_groups st.few).same
