-- Numbers in the steps of the code: what it returns at each of its tests.
use Rattle.std.specs.Prelude.{ℕ, zero, suc, ◌+◌, ◌-◌, ◌/◌, ◌%◌, ◌^◌, ◌≤◌, ◌<◌, ◌≡◌, refl, ◌≢◌, List, [], ◌∷◌, length}
use Rattle.std.proofs.Common.{sym, ap, ◌∙◌, arith, lt_of_lt_of_le}
use Rattle.std.proofs.Math.Nat.{one-le-pow, pow-le-pow_right}
use Rattle.network.specs.Limits.{max_groups}
use Rattle.network_file.specs.Number.{continued, read_groups, value_in, size_in, group_bytes, Bytes}
use Rattle.network_file.proofs.laws.NumberLaws.{read_last, read_more, last_group, more_groups, Seen, sees_one, sees_two, sees_three}
use Rattle.network_file.proofs.laws.NumberLaws.{sees_value, seen, again}
use Rattle.network_file.specs.Number.{Number}
use Rattle.network_file.specs.Number.{Value, Refused}

-- ---- reading
pub at_most_none : (left : ℕ) (s : List ℕ) → left ≡ 0 → Refused 2 ≡ read_groups left s
unfolding read_groups
at_most_none left s e = rw e

pub at_nothing : (left : ℕ) (s : List ℕ) → left ≢ 0 → length s ≡ 0 → Refused 1 ≡ read_groups left s
unfolding read_groups
at_nothing zero s n e = absurd (n refl)
at_nothing (suc left) [] n e = refl
at_nothing (suc left) (x ∷ s) n e = absurd (omega arith)

module _ (left : ℕ) (s : List ℕ) (x : ℕ) (t : List ℕ) (n : left ≢ 0) (s_is : s ≡ x ∷ t) where
  one_more : suc (left - 1) ≡ left
  one_more = omega arith

  pub at_last : x < 128 → Value x 1 ≡ read_groups left s
  at_last l = rw (s_is, sym one_more) (sym (read_last (left - 1) x t l))

  pub at_more : 128 ≤ x → continued x (read_groups (left - 1) t) ≡ read_groups left s
  at_more l = rw s_is (sym (read_more (left - 1) x t l) ∙ ap (λ (k : ℕ). read_groups k (x ∷ t)) one_more)

-- what is read fits the machine's numbers
pub record Small (most : ℕ) (r : Number) : Type 0 where
  pub value : value_in r < 128 ^ most
  pub size : size_in r ≤ most

seen_small : (most : ℕ) (t : List ℕ) → Bytes t → {r : Number} → Seen most t r → Small most r
seen_small most t b (sees_one h) = record { value = one-le-pow most 128 (omega arith); size = omega arith }
seen_small most t b (sees_two h) = record { value = one-le-pow most 128 (omega arith); size = omega arith }
seen_small most t b (sees_three h) = record { value = one-le-pow most 128 (omega arith); size = omega arith }
seen_small most t b (sees_value g l) = record { value = (again g b most l).small; size = l }

pub groups_small : (left : ℕ) (t : List ℕ) → Bytes t → left < max_groups → Small (max_groups - 1) (read_groups left t)
groups_small left t b l =
    let h = seen_small left t b (seen left t) in
    let p : 128 ^ left ≤ 128 ^ (max_groups - 1) =
    pow-le-pow_right {n = 128} (omega arith) {i = left} {j = max_groups - 1} (omega arith) in
    record { value = lt_of_lt_of_le h.value p; size = omega (arith, h.size) }

-- ---- writing
pub no_groups : (left v : ℕ) → left ≡ 0 → group_bytes left v ≡ []
unfolding group_bytes
no_groups left v e = rw e

pub one_group : (left v : ℕ) → left ≢ 0 → v < 128 → group_bytes left v ≡ v ∷ []
one_group zero v n l = absurd (n refl)
one_group (suc left) v n l = last_group left v l

pub some_groups : (left v : ℕ) → left ≢ 0 → 128 ≤ v → group_bytes left v ≡ (128 + v % 128) ∷ group_bytes (left - 1) (v / 128)
some_groups zero v n l = absurd (n refl)
some_groups (suc left) v n l = let q : suc left - 1 ≡ left = omega arith in rw q (more_groups left v l)
