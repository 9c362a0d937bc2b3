-- What the operations of Set.antt give: which nodes are in the set, and that it stays below 2 ^ n. Two sets of nodes
-- below n with the same nodes are one word (`same_bits` of base), and one that another includes is no greater
-- (`inside_le`).
use Rattle.std.specs.Prelude.{◌≡◌, refl, ◌≢◌, ◌⊎◌, Bool, true, false, not, ◌&&◌, ◌||◌, ℕ, ◌+◌, ◌-◌, ◌^◌, ◌≤◌, ◌<◌, eqb, ltb}
use Rattle.std.proofs.Common.{sym, ap, ◌∙◌, inl, inr, true≢false, arith, pow_pos, eq-eqb, ne_eqb, eqb-true, ltb-false}
use Rattle.std.proofs.Math.Bool.{or-true, or-false, and-false, and-true}
use Rattle.std.proofs.Math.Decide.{ℕ_discrete}
use Rattle.std.specs.Int.Bits.{bit_and, xor_add_and}
use Rattle.std.proofs.lemmas.Nat.{and_le_l, and_le_r, or_lt, xor_lt}
use Rattle.std.proofs.Math.Pow.{pow-lt}
use Rattle.base.proofs.laws.Bools.{bool2}
use Rattle.base.specs.Basics.{differ}
use Rattle.base.specs.Word.{holds}
use Rattle.base.proofs.laws.WordLaws.{same_bits, holds_out, holds_zero}
use Rattle.node_set.proofs.laws.BitLaws.{holds_and, holds_or, holds_xor, holds_power, holds_ones}
use Rattle.node_set.specs.Set.{empty, single, added, removed, union, intersection, difference, all_below}
use Rattle.node_set.specs.Set.{complement_in, included}

-- ---- no node, one node
pub holds_empty : (k : ℕ) → holds empty k ≡ false
unfolding empty
holds_empty k = holds_zero k

pub empty_lt : (n : ℕ) → empty < 2 ^ n
unfolding empty
empty_lt n = pow_pos n

pub holds_single : (i k : ℕ) → holds (single i) k ≡ eqb k i
unfolding single
holds_single i k = holds_power i k

pub single_same : (i : ℕ) → holds (single i) i ≡ true
single_same i = holds_single i i ∙ eq-eqb i i refl

pub single_other : (i k : ℕ) → k ≢ i → holds (single i) k ≡ false
single_other i k n = holds_single i k ∙ ne_eqb k i n

pub single_lt : (n i : ℕ) → i < n → single i < 2 ^ n
unfolding single
single_lt n i l = pow-lt l

-- ---- one node more
pub holds_added : (x i k : ℕ) → holds (added x i) k ≡ (holds x k || eqb k i)
unfolding added
holds_added x i k = rw (holds_or, holds_power)

pub added_same : (x i : ℕ) → holds (added x i) i ≡ true
added_same x i = rw (holds_added, eq-eqb i i refl) (or-true (holds x i))

pub added_other : (x i k : ℕ) → k ≢ i → holds (added x i) k ≡ holds x k
added_other x i k n = rw (holds_added, ne_eqb k i n) (or-false (holds x k))

pub added_keeps : (x i k : ℕ) → holds x k ≡ true → holds (added x i) k ≡ true
added_keeps x i k h = rw (holds_added, h)

-- a node of the set is the new one or was there
pub added_cases : (x i k : ℕ) → holds (added x i) k ≡ true → (k ≡ i) ⊎ (holds x k ≡ true)
added_cases x i k h = go (ℕ_discrete k i)
  where
    go : Dec (k ≡ i) → (k ≡ i) ⊎ (holds x k ≡ true)
    go (yes e) = inl e
    go (no n) = inr (sym (added_other x i k n) ∙ h)

pub added_lt : (n x i : ℕ) → x < 2 ^ n → i < n → added x i < 2 ^ n
unfolding added
added_lt n x i l h = or_lt n x (2 ^ i) l (pow-lt h)

-- ---- one node less
differ_and : (a b : Bool) → differ a (a && b) ≡ (a && not b)
differ_and = bool2 (λ a b. differ a (a && b) ≡ (a && not b)) ((refl, refl), (refl, refl))

pub holds_removed : (x i k : ℕ) → holds (removed x i) k ≡ (holds x k && not (eqb k i))
unfolding removed
holds_removed x i k = rw (holds_xor, holds_and, holds_power) (differ_and (holds x k) (eqb k i))

pub removed_same : (x i : ℕ) → holds (removed x i) i ≡ false
removed_same x i = rw (holds_removed, eq-eqb i i refl) (and-false (holds x i))

pub removed_other : (x i k : ℕ) → k ≢ i → holds (removed x i) k ≡ holds x k
removed_other x i k n = rw (holds_removed, ne_eqb k i n) (and-true (holds x k))

-- a node of the set was there, and is not the one taken out
pub removed_from : (x i k : ℕ) → holds (removed x i) k ≡ true → (k ≢ i) × (holds x k ≡ true)
removed_from x i k h = (other, sym (removed_other x i k other) ∙ h)
  where
    other : k ≢ i
    other e = true≢false (sym h ∙ rw e (removed_same x i))

and_member : (x i : ℕ) → holds x i ≡ true → bit_and x (2 ^ i) ≡ 2 ^ i
and_member x i h = same_bits (i + 1) (bit_and x (2 ^ i)) (2 ^ i) (omega (arith, and_le_r x (2 ^ i), below)) below at
  where
    below : 2 ^ i < 2 ^ (i + 1)
    below = pow-lt (omega arith)

    at : (k : ℕ) → k < i + 1 → holds (bit_and x (2 ^ i)) k ≡ holds (2 ^ i) k
    at k l = rw (holds_and, holds_power) (go (ℕ_discrete k i))
      where
        go : Dec (k ≡ i) → (holds x k && eqb k i) ≡ eqb k i
        go (yes e) = rw (e, h)
        go (no n) = rw (ne_eqb k i n) (and-false (holds x k))

-- the word loses what its bit stands for
pub removed_sum : (x i : ℕ) → holds x i ≡ true → removed x i + 2 ^ i ≡ x
unfolding removed
removed_sum x i h = rw (and_member x i h) (omega (arith, xor_add_and x (2 ^ i), and_member x i h))

-- so a loop over the nodes of a set that takes each out ends
pub removed_less : (x i : ℕ) → holds x i ≡ true → removed x i < x
removed_less x i h = omega (arith, removed_sum x i h, pow_pos i)

pub removed_lt : (n x i : ℕ) → x < 2 ^ n → removed x i < 2 ^ n
unfolding removed
removed_lt n x i l = xor_lt n x (bit_and x (2 ^ i)) l (omega (arith, and_le_l x (2 ^ i)))

-- ---- two sets
pub holds_union : (x y k : ℕ) → holds (union x y) k ≡ (holds x k || holds y k)
unfolding union
holds_union x y k = holds_or x y k

pub union_lt : (n x y : ℕ) → x < 2 ^ n → y < 2 ^ n → union x y < 2 ^ n
unfolding union
union_lt n x y l m = or_lt n x y l m

pub holds_intersection : (x y k : ℕ) → holds (intersection x y) k ≡ (holds x k && holds y k)
unfolding intersection
holds_intersection x y k = holds_and x y k

pub intersection_lt : (n x y : ℕ) → x < 2 ^ n → intersection x y < 2 ^ n
unfolding intersection
intersection_lt n x y l = omega (arith, and_le_l x y)

pub holds_difference : (x y k : ℕ) → holds (difference x y) k ≡ (holds x k && not (holds y k))
unfolding difference
holds_difference x y k = rw (holds_xor, holds_and) (differ_and (holds x k) (holds y k))

pub difference_lt : (n x y : ℕ) → x < 2 ^ n → difference x y < 2 ^ n
unfolding difference
difference_lt n x y l = xor_lt n x (bit_and x y) l (omega (arith, and_le_l x y))

-- ---- the nodes below n
pub holds_all_below : (n k : ℕ) → holds (all_below n) k ≡ ltb k n
unfolding all_below
holds_all_below n k = holds_ones n k

pub all_below_lt : (n : ℕ) → all_below n < 2 ^ n
unfolding all_below
all_below_lt n = omega (arith, pow_pos n)

pub holds_complement_in : (n x k : ℕ) → x < 2 ^ n → holds (complement_in n x) k ≡ (ltb k n && not (holds x k))
unfolding complement_in
holds_complement_in n x k l = rw (holds_xor, holds_ones) (go (ltb k n) refl)
  where
    go : (b : Bool) → ltb k n ≡ b → differ b (holds x k) ≡ (b && not (holds x k))
    go true e = refl
    go false e = holds_out n x k l (ltb-false k n e)

pub complement_in_lt : (n x : ℕ) → x < 2 ^ n → complement_in n x < 2 ^ n
unfolding complement_in
complement_in_lt n x l = xor_lt n (2 ^ n - 1) x (omega (arith, pow_pos n)) l

-- ---- a set within another
and_imp : (a b : Bool) → (a ≡ true → b ≡ true) → (a && b) ≡ a
and_imp true b f = f refl
and_imp false b f = refl

imp_and : (a b : Bool) → (a && b) ≡ a → a ≡ true → b ≡ true
imp_and true b e h = e
imp_and false b e h = absurd (true≢false (sym h))

included_and : (x y : ℕ) → included x y ≡ true → bit_and x y ≡ x
unfolding included
included_and x y h = eqb-true (bit_and x y) x h

pub included_holds : (x y : ℕ) → included x y ≡ true → (i : ℕ) → holds x i ≡ true → holds y i ≡ true
included_holds x y h i =
    imp_and (holds x i) (holds y i) (sym (holds_and x y i) ∙ ap (λ w. holds w i) (included_and x y h))

pub holds_included : (n x y : ℕ) → x < 2 ^ n → ((i : ℕ) → i < n → holds x i ≡ true → holds y i ≡ true)
    → included x y ≡ true
unfolding included
holds_included n x y l h =
    eq-eqb (bit_and x y) x
    (same_bits n (bit_and x y) x (omega (arith, and_le_l x y)) l
    (λ i m. holds_and x y i ∙ and_imp (holds x i) (holds y i) (h i m)))

pub included_le : (x y : ℕ) → included x y ≡ true → x ≤ y
included_le x y h = omega (arith, included_and x y h, and_le_r x y)
