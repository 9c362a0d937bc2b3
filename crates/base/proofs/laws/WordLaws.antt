-- Laws of words: which bits they hold, and that a word is known by them.
use Rattle.std.specs.Prelude.{◌≡◌, refl, Bool, true, false, ℕ, zero, suc, ◌+◌, ◌*◌, ◌^◌, ◌/◌, ◌%◌, ◌≤◌, ◌<◌, eqb}
use Rattle.std.proofs.Common.{sym, ap, ◌∙◌, arith, div-one, one-add, shr-shr, eqb-true, eq-eqb, ne_eqb}
use Rattle.std.proofs.lemmas.Bool.{eqb-false}
use Rattle.base.proofs.laws.Bools.{bool1}
use Rattle.base.specs.Word.{holds, bit, word}

low_bit : (a b : ℕ) → (eqb (a % 2) 1 ≡ true → eqb (b % 2) 1 ≡ true) → a % 2 ≤ b % 2
low_bit a b h = go (eqb (a % 2) 1) refl
  where
    go : (x : Bool) → eqb (a % 2) 1 ≡ x → a % 2 ≤ b % 2
    go true e = omega (arith, eqb-true (b % 2) 1 (h e))
    go false e = omega (arith, eqb-false (a % 2) 1 e)

-- a word all of whose bits another has is no greater
pub inside_le : (n a b : ℕ) → a < 2 ^ n → ((i : ℕ) → i < n → holds a i ≡ true → holds b i ≡ true) → a ≤ b
unfolding holds
inside_le zero a b l h = omega arith
inside_le (suc n) a b l h =
    omega (arith, low_bit a b (h 0 (omega arith)), inside_le n (a / 2) (b / 2) (omega arith) (λ i il. h (suc i) (omega arith)))

pub same_bits : (n a b : ℕ) → a < 2 ^ n → b < 2 ^ n → ((i : ℕ) → i < n → holds a i ≡ holds b i) → a ≡ b
same_bits n a b la lb h = omega (arith, inside_le n a b la (λ i l e. sym (h i l) ∙ e), inside_le n b a lb (λ i l e. h i l ∙ e))

pub bit_le : (x : Bool) → bit x ≤ 1
bit_le = bool1 _ (omega arith)

bit_test : (x : Bool) (w : ℕ) → eqb ((bit x + 2 * w) % 2) 1 ≡ x
bit_test true w = eq-eqb ((1 + 2 * w) % 2) 1 (omega arith)
bit_test false w = ne_eqb ((0 + 2 * w) % 2) 1 (omega arith)

pub word_lt : (n : ℕ) (X : ℕ → Bool) → word n X < 2 ^ n
unfolding word
word_lt zero X = omega arith
word_lt (suc n) X = omega (arith, word_lt n (λ i. X (suc i)), bit_le (X 0))

pub word_holds : (n : ℕ) (X : ℕ → Bool) (i : ℕ) → i < n → holds (word n X) i ≡ X i
unfolding word holds
word_holds zero X i l = absurd (omega arith)
word_holds (suc n) X zero l = bit_test (X 0) (word n (λ i. X (suc i)))
word_holds (suc n) X (suc i) l = ap (λ w. holds w i) half ∙ word_holds n (λ i. X (suc i)) i (omega arith)
  where
    half : (bit (X 0) + 2 * word n (λ i. X (suc i))) / 2 ≡ word n (λ i. X (suc i))
    half = omega (arith, bit_le (X 0))

-- the same bit by a shift
pub holds_shift : (w i : ℕ) → holds w i ≡ eqb (w / 2 ^ i % 2) 1
unfolding holds
holds_shift w zero = rw div-one
holds_shift w (suc i) = holds_shift (w / 2) i ∙ ap (λ v. eqb (v % 2) 1) (shr-shr w 1 i ∙ ap (λ e. w / 2 ^ e) (one-add i))

-- a word below 2 ^ n has no bit from n on
pub holds_zero : (i : ℕ) → holds 0 i ≡ false
unfolding holds
holds_zero zero = refl
holds_zero (suc i) = holds_zero i

pub holds_out : (n w i : ℕ) → w < 2 ^ n → n ≤ i → holds w i ≡ false
unfolding holds
holds_out zero w i l h = let e : w ≡ 0 = omega arith in rw e (holds_zero i)
holds_out (suc n) w zero l h = absurd (omega arith)
holds_out (suc n) w (suc i) l h = holds_out n (w / 2) i (omega arith) (omega arith)

pub low_digit : (d : ℕ) → d < 2 → bit (eqb d 1) ≡ d
low_digit zero l = refl
low_digit (suc zero) l = refl
low_digit (suc (suc d)) l = absurd (omega arith)
