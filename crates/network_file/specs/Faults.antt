-- "Checks by place", numbers 1 to 9: the condition of each and the place that it carries, in the paper's words and
-- apart from any reader. That reading gives these numbers at these places, and no other, is shown in `Files`.
use Rattle.std.specs.Prelude.{ℕ, zero, suc, ◌+◌, ◌-◌, ◌*◌, ◌≤◌, ◌<◌, ◌≡◌, ◌≢◌, List, ◌∷◌, length, drop}
use Rattle.base.specs.Basics.{at}
use Rattle.network.specs.Refusals.{ends_early, number_too_long, zero_group, bad_node_count, too_many_links}
use Rattle.network.specs.Refusals.{end_not_a_node, equal_ends, link_too_large, bytes_follow}
use Rattle.network.specs.Limits.{max_nodes, max_links, max_capacity, max_groups}

-- ---- each number of the file: t is what is left of the file, and a number has at most `most` groups
-- t begins with the groups of v, of this many bytes: lowest first, the top bit set in all but the last, the last of
-- several not zero
pub data Groups : List ℕ → ℕ → ℕ → Type 0 where
  last : {x : ℕ} {t : List ℕ} → x < 128 → Groups (x ∷ t) x 1
  more : {x v size : ℕ} {t : List ℕ} → 128 ≤ x → v ≢ 0 → Groups t v size → Groups (x ∷ t) (x - 128 + 128 * v) (size + 1)

-- the first k bytes of t are there, and have the top bit set
pub record Topped (k : ℕ) (t : List ℕ) : Type 0 where
  pub there : k ≤ length t
  pub top : (i : ℕ) → i < k → 128 ≤ at t i

-- 1: the file ends before the number's last byte, with fewer than four of its bytes there
pub record EndsEarly (most : ℕ) (t : List ℕ) : Type 0 where
  pub few : length t < most
  pub unended : Topped (length t) t

-- 2: its fourth byte has the top bit set
abbrev pub TooLong : ℕ → List ℕ → Type 0
TooLong most t = Topped most t

-- 3: its last group of several is zero
pub record ZeroLast (most : ℕ) (t : List ℕ) : Type 0 where
  pub before : ℕ
  pub several : 0 < before
  pub few : before < most
  pub topped : Topped before t
  pub there : before < length t
  pub zero_last : at t before ≡ 0

-- at this place of the file stands the number v, of this many bytes
pub record Stands (s : List ℕ) (place v size : ℕ) : Type 0 where
  pub groups : Groups (drop place s) v size
  pub few : size ≤ max_groups

-- ---- which number comes next, with those before it that its row looks back to
pub data Field : Type 0 where
  nodes : Field
  links : (n : ℕ) → Field
  -- a, b and c of a link that has so many links behind it
  end : (n left : ℕ) → Field
  other_end : (n left a : ℕ) → Field
  capacity : (n left : ℕ) → Field

pub data Next : Type 0 where
  number : Field → Next
  over : Next

abbrev pub links_left : ℕ → ℕ → Next
links_left n zero = over
links_left n (suc left) = number (end n left)

-- what comes behind a number, by its value
abbrev pub following : Field → ℕ → Next
following nodes n = number (links n)
following (links n) m = links_left n m
following (end n left) a = number (other_end n left a)
following (other_end n left a) b = number (capacity n left)
following (capacity n left) c = links_left n left

-- a number's own row: 4 to 8 for the value v
pub data Wrong : Field → ℕ → ℕ → Type 0 where
  four : {v : ℕ} → ((1 ≤ v) × (v ≤ max_nodes) → ⊥) → Wrong nodes v bad_node_count
  five : {n v : ℕ} → max_links < v → Wrong (links n) v too_many_links
  six : {n left v : ℕ} → n ≤ v → Wrong (end n left) v end_not_a_node
  six_later : {n left a v : ℕ} → n ≤ v → Wrong (other_end n left a) v end_not_a_node
  seven : {n left a v : ℕ} → v < n → v ≡ a → Wrong (other_end n left a) v equal_ends
  eight : {n left v : ℕ} → max_capacity < v → Wrong (capacity n left) v link_too_large

-- "A number passes 1 to 3, then its own row, before the next is read": what comes next at a place, where all before it
-- has passed
pub data Due (s : List ℕ) : Next → ℕ → Type 0 where
  first : Due s (number nodes) 0
  then : {x : Field} {place v size : ℕ}
      → Due s (number x) place → Stands s place v size → ((e : ℕ) → Wrong x v e → ⊥)
      → Due s (following x v) (place + size)

-- the number that is given for what comes next at a place
pub data Bad (s : List ℕ) (place : ℕ) : Next → ℕ → Type 0 where
  one : {x : Field} → EndsEarly max_groups (drop place s) → Bad s place (number x) ends_early
  two : {x : Field} → TooLong max_groups (drop place s) → Bad s place (number x) number_too_long
  three : {x : Field} → ZeroLast max_groups (drop place s) → Bad s place (number x) zero_group
  by_row : {x : Field} {v size e : ℕ} → Stands s place v size → Wrong x v e → Bad s place (number x) e
  nine : place < length s → Bad s place over bytes_follow

-- the file is refused with this number at this place
pub record Fault (s : List ℕ) (e place : ℕ) : Type 0 where
  pub next : Next
  pub due : Due s next place
  pub bad : Bad s place next e
