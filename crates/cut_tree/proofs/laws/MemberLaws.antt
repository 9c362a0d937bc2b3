-- Laws of members of a list.
use Rattle.std.specs.Prelude.{◌≡◌, refl, Bool, true, false, List, ◌∷◌, ℕ, eqb}
use Rattle.std.proofs.Common.{eq-eqb, ne_eqb}
use Rattle.base.specs.Basics.{pick, among}

pub among_head : (v : ℕ) (xs : List ℕ) → among v (v ∷ xs) ≡ true
unfolding among
among_head v xs = rw (eq-eqb v v refl)

pub among_later : (u v : ℕ) (xs : List ℕ) → among u xs ≡ true → among u (v ∷ xs) ≡ true
unfolding among
among_later u v xs e = go (eqb u v)
  where
    go : (b : Bool) → pick b true (among u xs) ≡ true
    go true = refl
    go false = e

pub among_on : (v x : ℕ) (xs : List ℕ) → (v ≡ x → ⊥) → among v (x ∷ xs) ≡ among v xs
unfolding among
among_on v x xs n = rw (ne_eqb v x n)
