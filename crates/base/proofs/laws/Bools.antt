-- Bools: a fact from its cases, all at once; what a conjunction, a disjunction or a difference says of its parts.
use Rattle.std.specs.Prelude.{◌≡◌, refl, ◌⊎◌, Bool, true, false, not, ◌&&◌, ◌||◌}
use Rattle.std.proofs.Common.{sym, inl, inr, true≢false}
use Rattle.base.specs.Basics.{pick, differ}

-- a statement at both Bools
abbrev pub Both : (Bool → Type 0) → Type 0
Both P = P true × P false

pub bool1 : (P : Bool → Type 0) → Both P → (x : Bool) → P x
bool1 P h true = h.0
bool1 P h false = h.1

pub bool2 : (P : Bool → Bool → Type 0) → Both (λ x. Both (λ y. P x y)) → (x y : Bool) → P x y
bool2 P h x y = bool1 (P x) (bool1 (λ x. Both (P x)) h x) y

pub bool4 : (P : Bool → Bool → Bool → Bool → Type 0) → Both (λ x. Both (λ y. Both (λ u. Both (λ v. P x y u v)))) → (x y u v : Bool)
    → P x y u v
bool4 P h x y u v = bool2 (P x y) (bool2 (λ x y. Both (λ u. Both (λ v. P x y u v))) h x y) u v

pub and_both : (x y : Bool) → x && y ≡ true → (x ≡ true) × (y ≡ true)
and_both true y e = (refl, e)
and_both false y e = absurd (true≢false (sym e))

pub and_not_both : (x y : Bool) → x && not y ≡ true → (x ≡ true) × (y ≡ false)
and_not_both true true e = (refl, sym e)
and_not_both true false e = (refl, refl)
and_not_both false y e = absurd (true≢false (sym e))

pub or_left : (x y : Bool) → x ≡ true → x || y ≡ true
or_left x y e = rw e

pub or_right : (x y : Bool) → y ≡ true → x || y ≡ true
or_right true y e = refl
or_right false y e = e

pub and_l : (x y : Bool) → x && y ≡ true → x ≡ true
and_l true y e = refl
and_l false y e = e

pub and_r : (x y : Bool) → x && y ≡ true → y ≡ true
and_r true y e = e
and_r false y e = absurd (true≢false (sym e))

pub both : {x y : Bool} → x ≡ true → y ≡ true → x && y ≡ true
both e f = simp (e, f)

pub or_pick : (x y z : Bool) → ((x || y) || z) ≡ (x || pick y true z)
or_pick true y z = refl
or_pick false true z = refl
or_pick false false z = refl

pub differ_turned : (x y : Bool) → differ x y ≡ differ y x
differ_turned = bool2 (λ x y. differ x y ≡ differ y x) ((refl, refl), (refl, refl))

pub differ_one : (x y : Bool) → differ x y ≡ true → (x ≡ true) ⊎ (y ≡ true)
differ_one true y e = inl refl
differ_one false y e = inr e

pub differ_not : (x y : Bool) → differ x y ≡ true → x ≡ not y
differ_not true y e = sym e
differ_not false true e = refl
differ_not false false e = e

pub not_differ : (x y : Bool) → x ≡ not y → differ x y ≡ true
not_differ x true e = rw e
not_differ x false e = rw e

pub never_true : (b : Bool) → ¬ (b ≡ true) → b ≡ false
never_true true n = absurd (n refl)
never_true false n = refl
