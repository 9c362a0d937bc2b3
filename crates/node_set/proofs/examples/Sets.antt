-- Each definition of Set.antt and Members.antt at small sets: 13 is the set of nodes 0, 2 and 3, 7 that of 0, 1 and 2.
use Rattle.std.specs.Prelude.{◌≡◌, refl, true, false, ℕ, zero, suc, ◌<◌, None, Some}
use Rattle.std.proofs.Common.{arith}
use Rattle.base.specs.Sum.{sum}
use Rattle.base.specs.Word.{holds}
use Rattle.node_set.specs.Set.{empty, single, added, removed, union, intersection, difference, all_below}
use Rattle.node_set.specs.Set.{complement_in, size, included, Lowest}
use Rattle.node_set.specs.code.Members.{TakesLowest}

none_one : (empty ≡ 0) × (single 0 ≡ 1) × (single 3 ≡ 8) × (single 63 ≡ 9223372036854775808)
unfolding empty single
none_one = (refl, refl, refl, refl)

-- a node that is in the set already, or is not in it, changes nothing
one_more : (added 13 1 ≡ 15) × (added 13 2 ≡ 13)
unfolding added
one_more = (refl, refl)

one_less : (removed 13 2 ≡ 9) × (removed 13 1 ≡ 13)
unfolding removed
one_less = (refl, refl)

two_sets : (union 13 7 ≡ 15) × (intersection 13 7 ≡ 5) × (difference 13 7 ≡ 8) × (difference 7 13 ≡ 2)
unfolding union intersection difference
two_sets = (refl, refl, refl, refl)

below : (all_below 0 ≡ 0) × (all_below 4 ≡ 15) × (all_below 64 ≡ 18446744073709551615)
unfolding all_below
below = (refl, refl, refl)

others : (complement_in 4 13 ≡ 2) × (complement_in 5 13 ≡ 18) × (complement_in 64 0 ≡ 18446744073709551615)
    × (complement_in 64 18446744073709551615 ≡ 0)
unfolding complement_in
others = (refl, refl, refl, refl)

-- only the nodes below n count
sizes : (size 4 13 ≡ 3) × (size 3 13 ≡ 2) × (size 64 13 ≡ 3) × (size 64 18446744073709551615 ≡ 64)
unfolding size sum holds
sizes = (refl, refl, refl, refl)

inclusion : (included 5 13 ≡ true) × (included 13 5 ≡ false) × (included 0 13 ≡ true) × (included 13 13 ≡ true)
unfolding included
inclusion = (refl, refl, refl, refl)

lowest_of_12 : Lowest 12 2
unfolding holds
lowest_of_12 = record { here = refl; none = none; small = omega arith }
  where
    none : (j : ℕ) → j < 2 → holds 12 j ≡ false
    none zero l = refl
    none (suc zero) l = refl
    none (suc (suc j)) l = absurd (omega arith)

-- of nodes 2 and 3 the first comes, and node 3 is left; of no nodes none comes
taken : TakesLowest (record { rest = 12 }) (Some 2) (record { rest = 8 })
unfolding removed
taken = (lowest_of_12, refl)

none_taken : TakesLowest (record { rest = 0 }) None (record { rest = 0 })
unfolding empty
none_taken = (refl, refl)
