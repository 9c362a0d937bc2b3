-- Sides are held as 64-bit words (docs/SCOPE.md, 3): the bits of the words that the bitwise operations give, and of
-- 2 ^ i and 2 ^ n - 1.
use Rattle.std.proofs.Common.{◌≡◌, refl, Bool, ◌&&◌, ◌||◌, ltb, sym, ◌∙◌, one-mul, arith, lit<, pow_pos, shl_exact, eq-eqb}
use Rattle.std.proofs.Common.{ne_eqb, lt-ltb, le-ltb, ap, ℕ, zero, suc, ◌*◌, ◌-◌, ◌/◌, ◌%◌, ◌^◌, ◌<◌}
use Rattle.std.specs.Int.Bits.{bit_and, bit_or, bit_xor}
use Rattle.std.proofs.lemmas.Nat.{and_shr, or_shr, xor_shr, and_mod, or_mod, xor_mod}
use Rattle.std.proofs.Math.Dec.{eqb, eqb-suc-suc, leb-suc-suc}
use Rattle.base.specs.Basics.{differ}
use Rattle.base.specs.Word.{holds}
use Rattle.base.proofs.laws.WordLaws.{holds_zero}
use Rattle.node_set.specs.Set.{width}

-- what the code's `1 << i` is
pub one_shifted : (i : ℕ) → i < width → (1 * 2 ^ i) % 2 ^ width ≡ 2 ^ i
one_shifted i l = shl_exact 1 i width (lit< tt) (omega arith) ∙ one-mul (2 ^ i)

-- ---- and, or, xor
digits : (P : ℕ → ℕ → Type 0) → P 0 0 → P 0 1 → P 1 0 → P 1 1 → (a b : ℕ) → a < 2 → b < 2 → P a b
digits P p q r s zero zero l m = p
digits P p q r s zero (suc zero) l m = q
digits P p q r s (suc zero) zero l m = r
digits P p q r s (suc zero) (suc zero) l m = s
digits P p q r s zero (suc (suc b)) l m = absurd (omega arith)
digits P p q r s (suc zero) (suc (suc b)) l m = absurd (omega arith)
digits P p q r s (suc (suc a)) b l m = absurd (omega arith)

-- an operation that goes bit by bit, op on numbers and f on Bools
module _ (op : ℕ → ℕ → ℕ) (f : Bool → Bool → Bool)
    (half : (a b : ℕ) → op a b / 2 ≡ op (a / 2) (b / 2))
    (low : (a b : ℕ) → op a b % 2 ≡ op (a % 2) (b % 2))
    (one : (a b : ℕ) → a < 2 → b < 2 → eqb (op a b) 1 ≡ f (eqb a 1) (eqb b 1)) where
  holds_op : (x y i : ℕ) → holds (op x y) i ≡ f (holds x i) (holds y i)
  unfolding holds
  holds_op x y zero = ap (λ n. eqb n 1) (low x y) ∙ one (x % 2) (y % 2) (omega arith) (omega arith)
  holds_op x y (suc i) = ap (λ n. holds n i) (half x y) ∙ holds_op (x / 2) (y / 2) i

pub holds_and : (x y i : ℕ) → holds (bit_and x y) i ≡ (holds x i && holds y i)
holds_and =
    holds_op bit_and ◌&&◌ (λ a b. and_shr a b 1) (λ a b. and_mod a b 1)
    (digits (λ a b. eqb (bit_and a b) 1 ≡ (eqb a 1 && eqb b 1)) refl refl refl refl)

pub holds_or : (x y i : ℕ) → holds (bit_or x y) i ≡ (holds x i || holds y i)
holds_or =
    holds_op bit_or ◌||◌ (λ a b. or_shr a b 1) (λ a b. or_mod a b 1)
    (digits (λ a b. eqb (bit_or a b) 1 ≡ (eqb a 1 || eqb b 1)) refl refl refl refl)

pub holds_xor : (x y i : ℕ) → holds (bit_xor x y) i ≡ differ (holds x i) (holds y i)
holds_xor =
    holds_op bit_xor differ (λ a b. xor_shr a b 1) (λ a b. xor_mod a b 1)
    (digits (λ a b. eqb (bit_xor a b) 1 ≡ differ (eqb a 1) (eqb b 1)) refl refl refl refl)

-- ---- 0, 2 ^ i and 2 ^ n - 1
pub holds_power : (i k : ℕ) → holds (2 ^ i) k ≡ eqb k i
unfolding holds
holds_power zero zero = refl
holds_power zero (suc k) = holds_zero k ∙ sym (ne_eqb (suc k) 0 (λ e. omega arith))
holds_power (suc i) zero = ne_eqb (2 ^ suc i % 2) 1 (λ e. omega arith) ∙ sym (ne_eqb 0 (suc i) (λ e. omega arith))
holds_power (suc i) (suc k) = let e : 2 ^ suc i / 2 ≡ 2 ^ i = omega arith in rw e (holds_power i k ∙ sym (eqb-suc-suc k i))

pub holds_ones : (n k : ℕ) → holds (2 ^ n - 1) k ≡ ltb k n
unfolding holds
holds_ones zero k = holds_zero k ∙ sym (le-ltb k 0 (omega arith))
holds_ones (suc n) zero = eq-eqb ((2 ^ suc n - 1) % 2) 1 (omega (arith, pow_pos n)) ∙ sym (lt-ltb 0 (suc n) (omega arith))
holds_ones (suc n) (suc k) =
    let e : (2 ^ suc n - 1) / 2 ≡ 2 ^ n - 1 = omega (arith, pow_pos n) in rw e (holds_ones n k ∙ sym (leb-suc-suc (suc k) n))
