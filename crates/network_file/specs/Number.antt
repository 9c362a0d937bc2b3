-- "A number is written in groups of seven bits, lowest group first, one byte a group, the top bit set in all but the
-- last byte, in the fewest groups": numbers of the file, with the checks 1 to 3.
use Rattle.std.specs.Prelude.{ℕ, zero, suc, ◌+◌, ◌-◌, ◌*◌, ◌/◌, ◌%◌, ◌<◌, List, [], ◌∷◌, ltb, eqb}
use Rattle.base.specs.Basics.{pick, at}
use Rattle.network.specs.Refusals.{ends_early, number_too_long, zero_group}
use Rattle.network.specs.Limits.{max_groups}

-- what stands at the front of a part of a file: a number with the bytes that it has, or a refusal number
pub data Number : Type 0 where
  Value : (value size : ℕ) → Number
  Refused : (number : ℕ) → Number

-- the number that byte x, with its top bit set, begins, by what follows x: a zero there is a last group of several that
-- is zero
abbrev pub continued : ℕ → Number → Number
continued x (Refused e) = Refused e
continued x (Value v size) = pick (eqb v 0) (Refused zero_group) (Value (x - 128 + 128 * v) (size + 1))

-- the number at the front of s, in at most this many groups
unfoldable pub read_groups : ℕ → List ℕ → Number
read_groups zero s = Refused number_too_long
read_groups (suc left) [] = Refused ends_early
read_groups (suc left) (x ∷ xs) = let rest = read_groups left xs in pick (ltb x 128) (Value x 1) (continued x rest)

abbrev pub read_number : List ℕ → Number
read_number s = read_groups max_groups s

-- the paper's number and values for each case: the refusal number, 0 for none; the value; how many bytes it has
abbrev pub refusal_in : Number → ℕ
refusal_in (Refused e) = e
refusal_in (Value v size) = 0

abbrev pub value_in : Number → ℕ
value_in (Refused e) = 0
value_in (Value v size) = v

abbrev pub size_in : Number → ℕ
size_in (Refused e) = 0
size_in (Value v size) = size

-- the bytes of v, in at most this many groups
unfoldable pub group_bytes : ℕ → ℕ → List ℕ
group_bytes zero v = []
group_bytes (suc left) v = let rest = group_bytes left (v / 128) in pick (ltb v 128) (v ∷ []) ((128 + v % 128) ∷ rest)

abbrev pub number_bytes : ℕ → List ℕ
number_bytes v = group_bytes max_groups v

-- how many bytes v has: one for each group, in at most this many
abbrev pub groups_of : ℕ → ℕ → ℕ
groups_of zero v = 0
groups_of (suc left) v = let rest = groups_of left (v / 128) in pick (ltb v 128) 1 (suc rest)

abbrev pub bytes_of : ℕ → ℕ
bytes_of v = groups_of max_groups v

-- what a slice of bytes holds
abbrev pub Bytes : List ℕ → Type 0
Bytes s = (i : ℕ) → at s i < 256
