-- Laws of the first number at which a function is least.
use Rattle.std.specs.Prelude.{◌≡◌, refl, Bool, true, false, ℕ, zero, suc, ◌≤◌, ◌<◌, ltb}
use Rattle.std.proofs.Common.{sym, ◌∙◌, true≢false, arith, ltb-true, ltb-false}
use Rattle.std.proofs.Math.Decide.{ℕ_discrete}
use Rattle.min_cut.specs.FirstWord.{better, first}

-- b is taken, no number w that is taken has a smaller value, and none of the same value stands before it
pub record First (ok : ℕ → Bool) (f : ℕ → ℕ) (w b : ℕ) : Type 0 where
  pub fine : ok b ≡ true
  pub least : f b ≤ f w
  pub early : f w ≤ f b → b ≤ w

better_le : (k b : ℕ) → b ≤ k → (x y z : Bool) → better x y z k b ≤ k
better_le k b l true true true = omega arith
better_le k b l true true false = omega arith
better_le k b l true false z = omega arith
better_le k b l false y z = omega arith

pub first_le : (ok : ℕ → Bool) (f : ℕ → ℕ) (k : ℕ) → first ok f k ≤ k
unfolding first
first_le ok f zero = omega arith
first_le ok f (suc k) =
    omega (arith, better_le k (first ok f k) (first_le ok f k) (ok k) (ok (first ok f k)) (ltb (f k) (f (first ok f k))))

pub first_lt : (ok : ℕ → Bool) (f : ℕ → ℕ) (k : ℕ) → 0 < k → first ok f k < k
unfolding first
first_lt ok f zero l = absurd (omega arith)
first_lt ok f (suc k) l =
    omega (arith, better_le k (first ok f k) (first_le ok f k) (ok k) (ok (first ok f k)) (ltb (f k) (f (first ok f k))))

module _ (ok : ℕ → Bool) (f : ℕ → ℕ) (k b w : ℕ) (o : ok w ≡ true) (l : b ≤ k) (wl : w < suc k) (ih : w < k → First ok f w b) where
  first_step : (x y z : Bool) → ok k ≡ x → ok b ≡ y → ltb (f k) (f b) ≡ z → Dec (w ≡ k) → First ok f w (better x y z k b)
  first_step true true true p q r (yes e) = record { fine = p; least = rw e (omega arith); early = λ h. omega arith }
  first_step true true false p q r (yes e) = record { fine = q; least = rw e (ltb-false _ _ r); early = λ h. omega arith }
  first_step true false z p q r (yes e) = record { fine = p; least = rw e (omega arith); early = λ h. omega arith }
  first_step false y z p q r (yes e) = absurd (true≢false (cc))
  first_step true true true p q r (no n) =
      let i : First ok f w b = ih (omega arith) in
      record { fine = p; least = omega (arith, ltb-true, i.least); early = λ h. omega (arith, ltb-true, i.least) }
  first_step true true false p q r (no n) = ih (omega arith)
  first_step true false z p q r (no n) = absurd (true≢false (sym (ih (omega arith)).fine ∙ q))
  first_step false y z p q r (no n) = ih (omega arith)

pub first_is : (ok : ℕ → Bool) (f : ℕ → ℕ) (k w : ℕ) → w < k → ok w ≡ true → First ok f w (first ok f k)
unfolding first
first_is ok f zero w l e = absurd (omega arith)
first_is ok f (suc k) w l e =
    first_step ok f k (first ok f k) w e (first_le ok f k) l (λ m. first_is ok f k w m e) _ _ _ refl refl refl (ℕ_discrete w k)

-- where it is not 0 there is one
pub first_some : (ok : ℕ → Bool) (f : ℕ → ℕ) (k : ℕ) → (first ok f k ≡ 0 → ⊥) → ok (first ok f k) ≡ true
unfolding first
first_some ok f zero n = absurd (n refl)
first_some ok f (suc k) n = go (ok k) refl (ok b) refl (ltb (f k) (f b)) (first_some ok f k) n
  where
    b : ℕ
    b = first ok f k

    go : (x : Bool) → ok k ≡ x → (y : Bool) → ok b ≡ y → (z : Bool) → ((b ≡ 0 → ⊥) → ok b ≡ true) → (better x y z k b ≡ 0 → ⊥)
        → ok (better x y z k b) ≡ true
    go true p true q true ih n = p
    go true p true q false ih n = q
    go true p false q z ih n = p
    go false p y q z ih n = ih n
