-- Tests over all places, and lists of tests.
use Rattle.std.specs.Prelude.{◌≡◌, refl, Bool, true, false, ◌&&◌, ℕ, zero, suc, ◌+◌, ◌<◌, List, [], ◌∷◌, eqb}
use Rattle.std.proofs.Common.{sym, ◌∙◌, true≢false, arith, add-one, ne_eqb}
use Rattle.std.proofs.Math.Decide.{ℕ_discrete}
use Rattle.base.specs.Basics.{all, every}
use Rattle.base.proofs.laws.Bools.{and_l, and_r, both}

pub all_at : (m : ℕ) (f : ℕ → Bool) → all m f ≡ true → (i : ℕ) → i < m → f i ≡ true
unfolding all
all_at zero f e i l = absurd (omega arith)
all_at (suc m) f e i l = go (ℕ_discrete i m) (all_at m f (and_l _ _ e) i)
  where
    go : Dec (i ≡ m) → (i < m → f i ≡ true) → f i ≡ true
    go (yes q) ih = rw q (and_r (all m f) (f m) e)
    go (no q) ih = ih (omega arith)

pub all_in : (m : ℕ) (f : ℕ → Bool) → ((i : ℕ) → i < m → f i ≡ true) → all m f ≡ true
unfolding all
all_in zero f h = refl
all_in (suc m) f h = both (all_in m f (λ i l. h i (omega arith))) (h m (omega arith))

-- one more: what a loop over the places has after a turn
pub all_none : (f : ℕ → Bool) → all 0 f ≡ true
unfolding all
all_none f = refl

pub all_more : (k : ℕ) (f : ℕ → Bool) → all k f ≡ true → f k ≡ true → all (k + 1) f ≡ true
unfolding all
all_more k f h e = rw add-one (both h e)

pub all_fails : (m : ℕ) (f : ℕ → Bool) (i : ℕ) → i < m → f i ≡ false → all m f ≡ false
all_fails m f i l e = go (all m f) refl
  where
    go : (b : Bool) → all m f ≡ b → all m f ≡ false
    go true h = absurd (true≢false (sym (all_at m f h i l) ∙ e))
    go false h = h

-- lists of tests: as data, so that antt finds the tests by itself
infixr 67 ◌&◌
pub data Every : List Bool → Type 0 where
  none : Every []
  ◌&◌ : {x : Bool} {xs : List Bool} → x ≡ true → Every xs → Every (x ∷ xs)

pub shown : (xs : List Bool) → every xs ≡ true → Every xs
unfolding every
shown [] e = none
shown (x ∷ xs) e = and_l x (every xs) e & shown xs (and_r x (every xs) e)

pub test : {xs : List Bool} → Every xs → every xs ≡ true
unfolding every
test none = refl
test (e & h) = both e (test h)

pub head : {x : Bool} {xs : List Bool} → Every (x ∷ xs) → x ≡ true
head (e & h) = e

pub rest : {x : Bool} {xs : List Bool} → Every (x ∷ xs) → Every xs
rest (e & h) = h

-- the first test as it was
pub keep : {x : Bool} {xs ys : List Bool} → (Every xs → Every ys) → Every (x ∷ xs) → Every (x ∷ ys)
keep f (e & h) = e & f h

-- two tests that were answered together: the tests behind them decide, or these do
pub pass_two : (x y : Bool) (xs : List Bool) → (x && y) ≡ true → every (x ∷ y ∷ xs) ≡ every xs
unfolding every
pass_two x y xs e = rw (and_l x y e, and_r x y e) refl

pub fail_two : (x y : Bool) (xs : List Bool) → (x && y) ≡ false → every (x ∷ y ∷ xs) ≡ false
unfolding every
fail_two true y xs e = rw e
fail_two false y xs e = refl

-- ---- a test of two numbers, turned
pub eqb_turned : (x y : ℕ) → eqb x y ≡ eqb y x
eqb_turned x y = go (ℕ_discrete x y)
  where
    go : Dec (x ≡ y) → eqb x y ≡ eqb y x
    go (yes e) = rw e
    go (no n) = rw (ne_eqb x y n, ne_eqb y x (λ e. n (sym e)))
