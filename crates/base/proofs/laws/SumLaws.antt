-- What turns a fact of each term into one of the sums, and sums of sums.
use Rattle.std.specs.Prelude.{◌≡◌, refl, ◌≢◌, ℕ, zero, suc, ◌+◌, ◌≤◌, ◌<◌, ◌*◌, Bool, false}
use Rattle.std.proofs.Common.{sym, ◌∙◌, arith, suc-mul}
use Rattle.std.proofs.Math.Decide.{ℕ_discrete}
use Rattle.base.specs.Sum.{sum}
use Rattle.base.proofs.laws.Bools.{bool1}
use Rattle.base.proofs.laws.Put.{put, put_same, put_other}
use Rattle.base.specs.Word.{bit}

pub sum_ext : (m : ℕ) (f g : ℕ → ℕ) → ((k : ℕ) → k < m → f k ≡ g k) → sum m f ≡ sum m g
unfolding sum
sum_ext zero f g h = refl
sum_ext (suc m) f g h = omega (arith, h m (omega arith), sum_ext m f g (λ k l. h k (omega arith)))

pub sum_zero : (m : ℕ) (f : ℕ → ℕ) → ((k : ℕ) → k < m → f k ≡ 0) → sum m f ≡ 0
unfolding sum
sum_zero zero f h = refl
sum_zero (suc m) f h = omega (arith, h m (omega arith), sum_zero m f (λ k l. h k (omega arith)))

-- a fact of each term is one of the sums; so for pairs of terms, and for three
pub sum_le : (m : ℕ) (f g : ℕ → ℕ) → ((k : ℕ) → k < m → f k ≤ g k) → sum m f ≤ sum m g
unfolding sum
sum_le zero f g h = omega arith
sum_le (suc m) f g h = omega (arith, h m (omega arith), sum_le m f g (λ k l. h k (omega arith)))

pub sum_le2 : (m : ℕ) (f g p q : ℕ → ℕ) → ((k : ℕ) → k < m → f k + g k ≤ p k + q k) → sum m f + sum m g ≤ sum m p + sum m q
unfolding sum
sum_le2 zero f g p q h = omega arith
sum_le2 (suc m) f g p q h = omega (arith, h m (omega arith), sum_le2 m f g p q (λ k l. h k (omega arith)))

pub sum_eq2 : (m : ℕ) (f g p q : ℕ → ℕ) → ((k : ℕ) → k < m → f k + g k ≡ p k + q k) → sum m f + sum m g ≡ sum m p + sum m q
unfolding sum
sum_eq2 zero f g p q h = refl
sum_eq2 (suc m) f g p q h = omega (arith, h m (omega arith), sum_eq2 m f g p q (λ k l. h k (omega arith)))

pub sum_eq3 : (m : ℕ) (f g h p q r : ℕ → ℕ) → ((k : ℕ) → k < m → f k + g k + h k ≡ p k + q k + r k)
    → sum m f + sum m g + sum m h ≡ sum m p + sum m q + sum m r
unfolding sum
sum_eq3 zero f g h p q r e = refl
sum_eq3 (suc m) f g h p q r e = omega (arith, e m (omega arith), sum_eq3 m f g h p q r (λ k l. e k (omega arith)))

-- a term is no more than the sum
pub sum_term : (m : ℕ) (f : ℕ → ℕ) (k : ℕ) → k < m → f k ≤ sum m f
unfolding sum
sum_term zero f k l = omega arith
sum_term (suc m) f k l = go (ℕ_discrete k m) (sum_term m f k)
  where
    go : Dec (k ≡ m) → (k < m → f k ≤ sum m f) → f k ≤ sum m f + f m
    go (yes e) ih = rw e (omega arith)
    go (no e) ih = omega (arith, ih (omega arith))

-- two lists of terms that differ at one place only
pub sum_at : (m : ℕ) (f g : ℕ → ℕ) (k : ℕ) → k < m → ((i : ℕ) → i ≢ k → f i ≡ g i) → sum m f + g k ≡ sum m g + f k
unfolding sum
sum_at zero f g k l h = omega arith
sum_at (suc m) f g k l h = go (ℕ_discrete k m) (λ l. sum_at m f g k l h)
  where
    go : Dec (k ≡ m) → (k < m → sum m f + g k ≡ sum m g + f k) → (sum m f + f m) + g k ≡ (sum m g + g m) + f k
    go (yes e) ih = rw e (omega (arith, sum_ext m f g (λ i il. h i (omega arith))))
    go (no e) ih = omega (arith, ih (omega arith), h m (omega arith))

-- terms that are 0 but for one
pub sum_single : (m : ℕ) (f : ℕ → ℕ) (k : ℕ) → k < m → ((i : ℕ) → i < m → i ≢ k → f i ≡ 0) → sum m f ≡ f k
unfolding sum
sum_single zero f k l h = absurd (omega arith)
sum_single (suc m) f k l h = go (ℕ_discrete k m) (λ l. sum_single m f k l (λ i il. h i (omega arith)))
  where
    go : Dec (k ≡ m) → (k < m → sum m f ≡ f k) → sum m f + f m ≡ f k
    go (yes e) ih = rw e (omega (arith, sum_zero m f (λ i il. h i (omega arith) (omega arith))))
    go (no n) ih = omega (arith, ih (omega arith), h m (omega arith) (λ e. n (sym e)))

-- but for two
pub sum_two : (m : ℕ) (f : ℕ → ℕ) (j k : ℕ) → j < m → k < m → j ≢ k → ((i : ℕ) → i < m → i ≢ j → i ≢ k → f i ≡ 0) → sum m f ≡ f j + f k
sum_two m f j k jl kl d h =
    omega (
      arith,
      sum_at m f (put f k 0) k kl (λ i n. sym (put_other f k 0 i n)),
      put_same f k 0,
      sum_single m (put f k 0) j jl (λ i l n. go i l n (ℕ_discrete i k)),
      put_other f k 0 j d,
    )
  where
    go : (i : ℕ) → i < m → i ≢ j → Dec (i ≡ k) → put f k 0 i ≡ 0
    go i l n (yes e) = rw e (put_same f k 0)
    go i l n (no nk) = put_other f k 0 i nk ∙ h i l n nk

pub sum_most : (m c : ℕ) (f : ℕ → ℕ) → ((k : ℕ) → k < m → f k ≤ c) → sum m f ≤ m * c
unfolding sum
sum_most zero c f h = omega arith
sum_most (suc m) c f h = rw (suc-mul m c) (omega (arith, h m (omega arith), sum_most m c f (λ k l. h k (omega arith))))

-- ---- sums of sums
sum_add : (m : ℕ) (f g : ℕ → ℕ) → sum m (λ k. f k + g k) ≡ sum m f + sum m g
unfolding sum
sum_add zero f g = refl
sum_add (suc m) f g = omega (arith, sum_add m f g)

pub sum_swap : (m n : ℕ) (f : ℕ → ℕ → ℕ) → sum m (λ k. sum n (λ i. f i k)) ≡ sum n (λ i. sum m (λ k. f i k))
unfolding sum
sum_swap zero n f = sym (sum_zero n (λ i. 0) (λ i l. refl))
sum_swap (suc m) n f = rw (sum_swap m n f) (sym (sum_add n (λ i. sum m (λ k. f i k)) (λ i. f i m)))

-- ---- the size is the number of ones
pub sum_first : (m : ℕ) (f : ℕ → ℕ) → sum (suc m) f ≡ f 0 + sum m (λ k. f (suc k))
unfolding sum
sum_first zero f = omega arith
sum_first (suc m) f = omega (arith, sum_first m f)

-- ---- at most n - 1 steps are not kept
pub sum_bits : (m : ℕ) (f : ℕ → Bool) → f 0 ≡ false → sum (suc m) (λ y. bit (f y)) ≤ m
unfolding sum
sum_bits zero f e = rw e (omega arith)
sum_bits (suc m) f e = omega (arith, sum_bits m f e, bool1 (λ b. bit b ≤ 1) (omega arith) (f (suc m)))
