-- A function changed at one place.
use Rattle.std.specs.Prelude.{◌≡◌, refl, ◌≢◌, cond, ℕ, eqb}
use Rattle.std.proofs.Common.{eq-eqb, ne_eqb}

-- f with v at k
unfoldable pub put {ℓ} : {A : Type ℓ} → (ℕ → A) → ℕ → A → ℕ → A
put f k v i = cond (eqb i k) v (f i)

pub put_same {ℓ} : {A : Type ℓ} (f : ℕ → A) (k : ℕ) (v : A) → put f k v k ≡ v
unfolding put
put_same f k v = rw (eq-eqb k k refl)

pub put_other {ℓ} : {A : Type ℓ} (f : ℕ → A) (k : ℕ) (v : A) (i : ℕ) → i ≢ k → put f k v i ≡ f i
unfolding put
put_other f k v i n = rw (ne_eqb i k n)
