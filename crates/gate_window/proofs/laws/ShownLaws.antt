-- The window's characters, one law for each way through the code, and what they are in each part of the range.
use Rattle.std.specs.Prelude.{ℕ, suc, ◌+◌, ◌/◌, ◌%◌, ◌≤◌, ◌<◌, ◌≡◌, refl, Bool, true, [], ◌∷◌, ◌++◌, length, drop}
use Rattle.std.specs.Prelude.{false, ℤ, pos, negsuc, ltb}
use Rattle.std.proofs.Common.{sym, ap, ◌∙◌, arith, ltb-true, ltb-false, SFits, to_z, of_z, to_z-of_z}
use Rattle.std.specs.Int.Signed.{lt_z}
use Rattle.std.specs.Int.{w32}
use Rattle.text.specs.Text.{decimal, right_aligned, numeral, text_of}
use Rattle.text.proofs.laws.TextLaws.{decimal_one, decimal_more, aligned_wider}
use Rattle.gate_window.specs.Shown.{window_width, lowest_shown, highest_shown, low, high, window_text}

-- ---- the numeral in four places
module _ (n : ℕ) where
  -- 0.0 to 9.9
  pub small : n < 100 → right_aligned window_width (numeral (pos n)) ≡ 32 ∷ (48 + n / 10) ∷ 46 ∷ (48 + n % 10) ∷ []
  small l = rw (decimal_one (n / 10) (omega arith))

  -- 10.0 to 99.9
  tens : 100 ≤ n → n < 1000 → decimal (n / 10) ≡ (48 + n / 100) ∷ (48 + n / 10 % 10) ∷ []
  tens l h =
      let e : n / 10 / 10 ≡ n / 100 = omega arith in
      decimal_more (n / 10) (omega arith) (omega arith)
      ∙ ap (λ xs. xs ++ ((48 + n / 10 % 10) ∷ [])) (decimal_one (n / 10 / 10) (omega arith) ∙ ap (λ q. (48 + q) ∷ []) e)

  pub large : 100 ≤ n → n < 1000
      → right_aligned window_width (numeral (pos n)) ≡ (48 + n / 100) ∷ (48 + n / 10 % 10) ∷ 46 ∷ (48 + n % 10) ∷ []
  large l h = rw (tens l h)

  -- −0.1 to −9.9
  pub minus : n < 99
      → right_aligned window_width (numeral (negsuc n)) ≡ 45 ∷ (48 + suc n / 10) ∷ 46 ∷ (48 + suc n % 10) ∷ []
  minus l = rw (decimal_one (suc n / 10) (omega arith))

-- ---- what fits is the right end of the headroom's text
-- a test that failed, in words
up_to : (k n : ℕ) → ltb k n ≡ false → n < suc k
up_to k n e = omega (arith, ltb-false k n e)

four_long : (z : ℤ) → lt_z z lowest_shown ≡ false → lt_z highest_shown z ≡ false → length (numeral z) ≤ window_width
four_long (pos n) l h = go (ltb n 100) refl
  where
    go : (b : Bool) → ltb n 100 ≡ b → length (numeral (pos n)) ≤ window_width
    go true e = rw (decimal_one (n / 10) (omega (arith, ltb-true n 100 e))) (omega arith)
    go false e = rw (tens n (ltb-false n 100 e) (up_to 999 n h)) (omega arith)
four_long (negsuc n) l h = rw (decimal_one (suc n / 10) (omega (arith, up_to 98 n l))) (omega arith)

module _ (z : ℤ) (f : SFits w32 z) where
  -- a test of the number that is handed on is one of the number itself
  pub shown_low : lt_z (to_z w32 (of_z w32 z)) lowest_shown ≡ true → low ≡ window_text z
  unfolding window_text
  shown_low e = rw (sym (ap (λ v. lt_z v lowest_shown) (to_z-of_z f)) ∙ e)

  module _ (l : lt_z (to_z w32 (of_z w32 z)) lowest_shown ≡ false) where
    above_low : lt_z z lowest_shown ≡ false
    above_low = sym (ap (λ v. lt_z v lowest_shown) (to_z-of_z f)) ∙ l

    pub shown_high : lt_z highest_shown (to_z w32 (of_z w32 z)) ≡ true → high ≡ window_text z
    unfolding window_text
    shown_high e = rw (above_low, sym (ap (λ v. lt_z highest_shown v) (to_z-of_z f)) ∙ e)

    pub shown_number : lt_z highest_shown (to_z w32 (of_z w32 z)) ≡ false → drop 8 (text_of z) ≡ window_text z
    unfolding window_text text_of
    shown_number e =
        let below_high : lt_z highest_shown z ≡ false = sym (ap (λ v. lt_z highest_shown v) (to_z-of_z f)) ∙ e in
        rw (above_low, below_high)
        (ap (drop 8) (aligned_wider 8 window_width (numeral z) (four_long z above_low below_high)))

-- ---- the window in each part of the range
pub data Form (z : ℤ) : Type 0 where
  below : lt_z z lowest_shown ≡ true → lt_z highest_shown z ≡ false → window_text z ≡ low → Form z
  above : lt_z z lowest_shown ≡ false → lt_z highest_shown z ≡ true → window_text z ≡ high → Form z
  short : (n : ℕ) → z ≡ negsuc n → n < 99 → window_text z ≡ 45 ∷ (48 + suc n / 10) ∷ 46 ∷ (48 + suc n % 10) ∷ [] → Form z
  one_digit : (n : ℕ) → z ≡ pos n → n < 100 → window_text z ≡ 32 ∷ (48 + n / 10) ∷ 46 ∷ (48 + n % 10) ∷ [] → Form z
  two_digits : (n : ℕ) → z ≡ pos n → 100 ≤ n → n < 1000
      → window_text z ≡ (48 + n / 100) ∷ (48 + n / 10 % 10) ∷ 46 ∷ (48 + n % 10) ∷ [] → Form z

pub form : (z : ℤ) → Form z
unfolding window_text
form (negsuc n) = go (ltb 98 n) refl
  where
    go : (b : Bool) → ltb 98 n ≡ b → Form (negsuc n)
    go true e = below e refl (rw e)
    go false e = let l = up_to 98 n e in short n refl l (rw e (minus n l))
form (pos n) = go (ltb 999 n) refl (ltb n 100) refl
  where
    go : (b : Bool) → ltb 999 n ≡ b → (c : Bool) → ltb n 100 ≡ c → Form (pos n)
    go true e c f = above refl e (rw e)
    go false e true f = let l = ltb-true n 100 f in one_digit n refl l (rw e (small n l))
    go false e false f =
        let l = ltb-false n 100 f in let h = up_to 999 n e in two_digits n refl l h (rw e (large n l h))
