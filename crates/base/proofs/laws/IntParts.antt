-- A whole number by its two parts, of which one is 0: sums of signed numbers become equations of natural ones.
use Rattle.std.specs.Prelude.{◌≡◌, refl, Bool, true, false, cond, ℕ, zero, suc, ◌+◌, ◌-◌, ◌≤◌, min, ltb, ℤ, pos, negsuc}
use Rattle.std.specs.Prelude.{nat_abs, neg_ℤ, ◌+ℤ◌, ◌-ℤ◌, ◌≤ℤ◌}
use Rattle.std.proofs.Common.{ap, arith, le→leb, ltb-true, ltb-false}
use Rattle.std.proofs.Math.IntN.{sub_ℕ}
use Rattle.std.specs.Int.Signed.{le_z_yes}

-- z above 0
abbrev pub above : ℤ → ℕ
above (pos n) = n
above (negsuc n) = 0

-- z below 0, without its sign
abbrev pub under : ℤ → ℕ
under (pos n) = 0
under (negsuc n) = suc n

-- a - b of natural numbers
sub_parts : (a b : ℕ) → above (sub_ℕ a b) + b ≡ under (sub_ℕ a b) + a
sub_parts a b = go (ltb a b) refl
  where
    go : (x : Bool) → ltb a b ≡ x
        → above (cond x (negsuc (b - suc a)) (pos (a - b))) + b ≡ under (cond x (negsuc (b - suc a)) (pos (a - b))) + a
    go true e = omega (arith, ltb-true a b e)
    go false e = omega (arith, ltb-false a b e)

pub sum_parts : (y z : ℤ) → above (y +ℤ z) + under y + under z ≡ under (y +ℤ z) + above y + above z
sum_parts (pos a) (pos b) = omega arith
sum_parts (pos a) (negsuc b) = omega (arith, sub_parts a (suc b))
sum_parts (negsuc a) (pos b) = omega (arith, sub_parts b (suc a))
sum_parts (negsuc a) (negsuc b) = omega arith

pub negation_parts : (z : ℤ) → (above (neg_ℤ z) ≡ under z) × (under (neg_ℤ z) ≡ above z)
negation_parts (pos zero) = (refl, refl)
negation_parts (pos (suc n)) = (refl, refl)
negation_parts (negsuc n) = (refl, refl)

pub difference_parts : (y z : ℤ) → above (y -ℤ z) + under y + above z ≡ under (y -ℤ z) + above y + under z
difference_parts y z = omega (arith, sum_parts y (neg_ℤ z), (negation_parts z).0, (negation_parts z).1)

pub size_parts : (z : ℤ) → nat_abs z ≡ above z + under z
size_parts (pos n) = omega arith
size_parts (negsuc n) = omega arith

-- numbers with the same difference of parts are the same
pub same_parts : (y z : ℤ) → above y + under z ≡ under y + above z → y ≡ z
same_parts (pos a) (pos b) e = ap pos (omega arith)
same_parts (pos a) (negsuc b) e = absurd (omega arith)
same_parts (negsuc a) (pos b) e = absurd (omega arith)
same_parts (negsuc a) (negsuc b) e = ap negsuc (omega arith)

pub one_part : (z : ℤ) → min (above z) (under z) ≡ 0
one_part (pos n) = omega arith
one_part (negsuc n) = omega arith

pub le_parts : (z : ℤ) (c : ℕ) → above z ≤ under z + c → z ≤ℤ pos c
le_parts (pos n) c h = le_z_yes (le→leb n c (omega arith))
le_parts (negsuc n) c h = le_z_yes tt
