-- A word and one less than it have in common what is left without the lowest node.
use Rattle.std.proofs.Common.{◌≡◌, true, false, ◌∙◌, pow_pos, arith, eqb-true, ℕ, zero, suc, ◌+◌, ◌-◌, ◌*◌, ◌/◌, ◌%◌, ◌^◌}
use Rattle.std.proofs.Common.{◌<◌}
use Rattle.std.specs.Int.Bits.{bit_and, and_self, and_step}
use Rattle.std.proofs.lemmas.Bool.{eqb-false}
use Rattle.base.specs.Word.{holds}
use Rattle.node_set.specs.Set.{removed, Lowest}
use Rattle.node_set.proofs.theorems.Members.{removed_sum}

cleared_sum : (r x : ℕ) → holds x r ≡ true → ((j : ℕ) → j < r → holds x j ≡ false) → bit_and x (x - 1) + 2 ^ r ≡ x
unfolding holds
cleared_sum zero x h n =
    let odd : x % 2 ≡ 1 = eqb-true (x % 2) 1 h in
    let half : (x - 1) / 2 ≡ x / 2 = omega arith in
    let even : (x - 1) % 2 ≡ 0 = omega arith in
    let e : bit_and x (x - 1) ≡ x / 2 * 2 = and_step x (x - 1) ∙ rw (half, even, odd, and_self (x / 2)) (omega arith) in
    omega arith
cleared_sum (suc r) x h n =
    let low = eqb-false (x % 2) 1 (n 0 (omega arith)) in
    let even : x % 2 ≡ 0 = omega (arith, low) in
    let ih = cleared_sum r (x / 2) h (λ j l. n (suc j) (omega arith)) in
    let half : (x - 1) / 2 ≡ x / 2 - 1 = omega (arith, ih, pow_pos r) in
    let e : bit_and x (x - 1) ≡ bit_and (x / 2) (x / 2 - 1) * 2 = and_step x (x - 1) ∙ rw (half, even) (omega arith) in
    omega (arith, ih, e)

pub cleared : (x r : ℕ) → Lowest x r → bit_and x (x - 1) ≡ removed x r
cleared x r w = omega (arith, cleared_sum r x w.here w.none, removed_sum x r w.here)
