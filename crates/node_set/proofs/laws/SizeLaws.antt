-- How many nodes a side has (docs/SCOPE.md, 6): the size of a set and its lowest node, as counts of the digits of its word.
use Rattle.std.proofs.Common.{◌≡◌, refl, ◌≢◌, Bool, true, not, sym, ◌∙◌, true≢false, lt_of_not-le, arith, lt-ltb, ap, ℕ, zero}
use Rattle.std.proofs.Common.{suc, ◌+◌, ◌/◌, ◌%◌, ◌^◌, ◌≤◌, ◌<◌}
use Rattle.std.proofs.Math.Bool.{false}
use Rattle.std.specs.Int.Count.{ones_in, ones, ones_step, count_trailing_zeros, under}
use Rattle.std.proofs.Math.Dec.{eqb}
use Rattle.base.proofs.laws.Bools.{bool1}
use Rattle.base.proofs.laws.SumLaws.{sum_at, sum_zero, sum_first}
use Rattle.base.specs.Sum.{sum}
use Rattle.base.specs.Word.{bit, holds}
use Rattle.base.proofs.laws.WordLaws.{holds_out, bit_le, low_digit}
use Rattle.node_set.specs.Set.{width, empty, added, removed, complement_in, size, Lowest, Counted}
use Rattle.node_set.proofs.theorems.Members.{holds_empty, added_same, added_other, removed_same, removed_other}
use Rattle.node_set.proofs.theorems.Members.{holds_complement_in}

pub size_ones : (n x : ℕ) → x < 2 ^ n → size n x ≡ ones x
unfolding size sum holds ones_in ones
size_ones zero x l = let e : x ≡ 0 = omega arith in rw e
size_ones (suc n) x l =
    omega (arith, sum_first n (λ i. bit (holds x i)), low_digit (x % 2) (omega arith), size_ones n (x / 2) (omega arith), ones_step x)

pub counted : (x : ℕ) → Counted x (ones x)
counted x = record { digits = refl; members = λ n l. sym (size_ones n x l) }

-- ---- a node more or less
pub size_le : (n x : ℕ) → size n x ≤ n
unfolding size sum
size_le zero x = omega arith
size_le (suc n) x = omega (arith, size_le n x, bit_le (holds x n))

pub size_empty : (n : ℕ) → size n empty ≡ 0
unfolding size
size_empty n = sum_zero n (λ i. bit (holds empty i)) (λ i l. ap bit (holds_empty i))

-- two sets that differ at node i only, which y has and x has not
size_differ : (n x y i : ℕ) → i < n → holds y i ≡ true → holds x i ≡ false → ((k : ℕ) → k ≢ i → holds y k ≡ holds x k)
    → size n y ≡ size n x + 1
unfolding size
size_differ n x y i l hy hx other =
    omega (arith, ap bit hy, ap bit hx, sum_at n (λ k. bit (holds y k)) (λ k. bit (holds x k)) i l (λ k d. ap bit (other k d)))

pub size_added : (n x i : ℕ) → i < n → holds x i ≡ false → size n (added x i) ≡ size n x + 1
size_added n x i l h = size_differ n x (added x i) i l (added_same x i) h (added_other x i)

-- each node taken out leaves fewer
pub size_removed : (n x i : ℕ) → i < n → holds x i ≡ true → size n (removed x i) < size n x
size_removed n x i l h =
    omega (arith, size_differ n (removed x i) x i l h (removed_same x i) (λ k d. sym (removed_other x i k d)))

-- ---- the lowest node
-- a node of a set of nodes below n is below n
pub member_lt : (n x i : ℕ) → x < 2 ^ n → holds x i ≡ true → i < n
member_lt n x i l h = lt_of_not-le (λ m. true≢false (sym h ∙ holds_out n x i l m))

-- where a word's lowest 1 stands, by its last digit d and the lowest 1 of its other digits
module _ (x t : ℕ) where
  lowest_at : (d : ℕ) → x % 2 ≡ d → d < 2 → (d ≡ 0 → (holds (x / 2) t ≡ true) × ((j : ℕ) → j < t → holds (x / 2) j ≡ false))
      → (holds x (under d t) ≡ true) × ((j : ℕ) → j < under d t → holds x j ≡ false)
  unfolding holds
  lowest_at zero e l ih = ((ih refl).0, below)
    where
      below : (j : ℕ) → j < suc t → holds x j ≡ false
      below zero l = ap (λ n. eqb n 1) e
      below (suc j) l = (ih refl).1 j (omega arith)
  lowest_at (suc zero) e l ih = (ap (λ n. eqb n 1) e, λ j m. absurd (omega arith))
  lowest_at (suc (suc d)) e l ih = absurd (omega arith)

lowest_bit : (k x : ℕ) → 0 < x → x < 2 ^ k → (holds x (count_trailing_zeros k x) ≡ true)
    × ((j : ℕ) → j < count_trailing_zeros k x → holds x j ≡ false)
unfolding count_trailing_zeros
lowest_bit zero x p l = absurd (omega arith)
lowest_bit (suc k) x p l =
    lowest_at x (count_trailing_zeros k (x / 2)) (x % 2) refl (omega arith) (λ e. lowest_bit k (x / 2) (omega arith) (omega arith))

pub lowest_is : (x : ℕ) → 0 < x → x < 2 ^ width → Lowest x (count_trailing_zeros width x)
lowest_is x p l = let b = lowest_bit width x p l in record { here = b.0; none = b.1; small = member_lt width x _ l b.0 }

-- two sets, each of which has just the nodes that the other has not
sum_halves : (m : ℕ) (X Y : ℕ → Bool) → ((i : ℕ) → i < m → Y i ≡ not (X i)) → sum m (λ i. bit (X i)) + sum m (λ i. bit (Y i)) ≡ m
unfolding sum
sum_halves zero X Y h = refl
sum_halves (suc m) X Y h =
    let one = bool1 (λ x. bit x + bit (not x) ≡ 1) (refl, refl) (X m) in
    omega (arith, sum_halves m X Y (λ i l. h i (omega arith)), ap bit (h m (omega arith)), one)

pub size_complement : (n x : ℕ) → x < 2 ^ n → size n x + size n (complement_in n x) ≡ n
unfolding size
size_complement n x l =
    sum_halves n (holds x) (holds (complement_in n x)) (λ i m. holds_complement_in n x i l ∙ rw (lt-ltb i n m))
