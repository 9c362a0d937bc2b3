-- Places that are 0, from one on.
use Rattle.std.specs.Prelude.{◌≡◌, refl, true, ℕ, zero, suc, ◌+◌, ◌≤◌, List, [], ◌∷◌, length, drop, replicate, set, eqb}
use Rattle.std.proofs.Common.{ap₂, arith, drop-set-lt, add-one, eqb-true}
use Rattle.base.specs.Basics.{at, blank, blank_from}
use Rattle.base.proofs.laws.Bools.{and_l, and_r}

-- ---- unused places
pub blank_suc : (d : ℕ) (xs : List ℕ) → blank (drop d xs) ≡ true → blank (drop (suc d) xs) ≡ true
unfolding blank
blank_suc zero [] e = refl
blank_suc zero (x ∷ xs) e = and_r (eqb x 0) (blank xs) e
blank_suc (suc d) [] e = refl
blank_suc (suc d) (x ∷ xs) e = blank_suc d xs e

pub blank_at : (d : ℕ) (xs : List ℕ) → blank (drop d xs) ≡ true → at xs d ≡ 0
unfolding blank
blank_at zero [] e = refl
blank_at zero (x ∷ xs) e = eqb-true x 0 (and_l (eqb x 0) (blank xs) e)
blank_at (suc d) [] e = refl
blank_at (suc d) (x ∷ xs) e = blank_at d xs e

pub blank_zeros : (n : ℕ) → blank (replicate n 0) ≡ true
unfolding blank
blank_zeros zero = refl
blank_zeros (suc n) = blank_zeros n

pub blank_in : (n : ℕ) (xs : List ℕ) → ((x : ℕ) → n ≤ x → at xs x ≡ 0) → blank (drop n xs) ≡ true
unfolding blank
blank_in zero [] h = refl
blank_in zero (y ∷ ys) h = rw (h 0 (omega arith)) (blank_in zero ys (λ x l. h (suc x) (omega arith)))
blank_in (suc n) [] h = refl
blank_in (suc n) (y ∷ ys) h = blank_in n ys (λ x l. h (suc x) (omega arith))

pub zeros_at : (n x : ℕ) → at (replicate n 0) x ≡ 0
zeros_at zero x = refl
zeros_at (suc n) zero = refl
zeros_at (suc n) (suc x) = zeros_at n x

-- ---- arrays that are filled from the front
pub blank_is : (xs : List ℕ) → blank xs ≡ true → xs ≡ replicate (length xs) 0
unfolding blank
blank_is [] e = refl
blank_is (x ∷ xs) e =
    ap₂ (λ (y : ℕ) (ys : List ℕ). y ∷ ys) (eqb-true x 0 (and_l (eqb x 0) (blank xs) e)) (blank_is xs (and_r (eqb x 0) (blank xs) e))

-- an unused place holds 0
pub blank_above : (n : ℕ) (xs : List ℕ) → blank (drop n xs) ≡ true → (x : ℕ) → n ≤ x → at xs x ≡ 0
unfolding blank
blank_above zero [] e x l = refl
blank_above zero (y ∷ ys) e zero l = eqb-true y 0 (and_l (eqb y 0) (blank ys) e)
blank_above zero (y ∷ ys) e (suc x) l = blank_above zero ys (and_r (eqb y 0) (blank ys) e) x (omega arith)
blank_above (suc n) [] e x l = refl
blank_above (suc n) (y ∷ ys) e zero l = absurd (omega arith)
blank_above (suc n) (y ∷ ys) e (suc x) l = blank_above n ys e x (omega arith)

-- what was blank from place d on is blank from d + 1 on, whatever is put at d
pub blank_behind : (d v : ℕ) (xs : List ℕ) → blank_from d xs ≡ true → blank_from (d + 1) (set xs d v) ≡ true
blank_behind d v xs h = rw (add-one, drop-set-lt (suc d) xs d v (omega arith)) (blank_suc d xs h)
