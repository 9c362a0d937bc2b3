-- What the window tells, in each part of the range.
use Rattle.std.specs.Prelude.{ℕ, suc, ◌+◌, ◌-◌, ◌*◌, ◌/◌, ◌%◌, ◌<◌, ◌≡◌, refl, ◌≢◌, ◌↔◌, Bool, true, false, List, []}
use Rattle.std.specs.Prelude.{◌∷◌, length, replicate, T, ℤ, pos, negsuc, neg_ℤ, ◌<ℤ◌}
use Rattle.std.proofs.Common.{sym, ap, subst, ◌∙◌, true≢false, arith, ltb→lt, ne_eqb, le-ltb}
use Rattle.std.specs.Int.Signed.{lt_z, lt_z_yes, clash_ℤ}
use Rattle.base.specs.Basics.{at}
use Rattle.gate_window.specs.Shown.{window_width, lowest_shown, highest_shown, low, high, window_text}
use Rattle.gate_window.specs.Shows.{tenths_in, Shows}
use Rattle.gate_window.proofs.laws.ShownLaws.{Form, below, above, short, one_digit, two_digits}

yes : {a b : ℤ} → lt_z a b ≡ true → a <ℤ b
yes e = lt_z_yes (subst T (sym e) tt)

test : {a b : ℤ} → a <ℤ b → lt_z a b ≡ true
test {a} {b} l = go (lt_z a b) l.lt
  where
    go : (x : Bool) → T x → x ≡ true
    go true t = refl
    go false t = absurd t

-- a test, where the characters tell it: they are these exactly where it holds
only : {a b : ℤ} (xs ys : List ℕ) → xs ≢ ys → lt_z a b ≡ false → (xs ≡ ys) ↔ (a <ℤ b)
only xs ys d e = (λ q. absurd (d q), λ l. absurd (true≢false (sym (test l) ∙ e)))

-- characters that differ in the first place
apart : (xs ys : List ℕ) → at xs 0 ≢ at ys 0 → xs ≢ ys
apart xs ys d e = d (ap (λ (xs : List ℕ). at xs 0) e)

not_below_zero : (n : ℕ) → ¬ (pos n <ℤ pos 0)
not_below_zero n l = omega (arith, ltb→lt n 0 l.lt)

number : (a b c n : ℕ) → at (a ∷ b ∷ 46 ∷ c ∷ []) 0 ≢ 45 → 100 * (a - 48) + (10 * (b - 48) + (c - 48)) ≡ n
    → tenths_in (a ∷ b ∷ 46 ∷ c ∷ []) ≡ pos n
unfolding tenths_in
number a b c n d e = rw (ne_eqb a 45 d) (ap pos e)

-- a number in its four characters: what is left to say of each of the three shapes
within : (z : ℤ) (xs : List ℕ) → window_text z ≡ xs → lt_z z lowest_shown ≡ false → lt_z highest_shown z ≡ false → length xs ≡ window_width
    → tenths_in xs ≡ z → (at xs 0 ≡ 45) ↔ (z <ℤ pos 0) → at xs 0 ≢ 76 → at xs 0 ≢ 72 → xs ≢ replicate window_width 32 → Shows z
within z xs e l h long tells minus no_l no_h no_blank = record {
  four = rw e long;
  tells = λ i. rw e tells;
  minus = λ i. rw e minus;
  low_below = rw e (only xs low (apart xs low no_l) l);
  high_above = rw e (only xs high (apart xs high no_h) h);
  no_blank = rw e no_blank;
}

short_shows : (n : ℕ) → n < 99 → window_text (negsuc n) ≡ 45 ∷ (48 + suc n / 10) ∷ 46 ∷ (48 + suc n % 10) ∷ [] → Shows (negsuc n)
unfolding tenths_in
short_shows n l e =
    within (negsuc n) _ e (le-ltb 98 n (omega arith)) refl refl value (λ q. lt_z_yes tt, λ q. refl) (omega arith) (omega arith)
    (apart (45 ∷ (48 + suc n / 10) ∷ 46 ∷ (48 + suc n % 10) ∷ []) (replicate window_width 32) (omega arith))
  where
    ones : 10 * ((48 + suc n / 10) - 48) + ((48 + suc n % 10) - 48) ≡ suc n
    ones = omega arith

    value : tenths_in (45 ∷ (48 + suc n / 10) ∷ 46 ∷ (48 + suc n % 10) ∷ []) ≡ negsuc n
    value = ap (λ (k : ℕ). neg_ℤ (pos k)) ones

spare_shows : (a b c n : ℕ) → n < 1000 → window_text (pos n) ≡ a ∷ b ∷ 46 ∷ c ∷ [] → (a ≢ 45) × (a ≢ 76) × (a ≢ 72)
    → 100 * (a - 48) + (10 * (b - 48) + (c - 48)) ≡ n → b ≢ 32 → Shows (pos n)
spare_shows a b c n l e (no_minus, no_l, no_h) ones no_blank =
    within (pos n) (a ∷ b ∷ 46 ∷ c ∷ []) e refl (le-ltb 999 n (omega arith)) refl (number a b c n no_minus ones)
    (λ q. absurd (no_minus q), λ l. absurd (not_below_zero n l)) no_l no_h (λ q. no_blank (ap (λ (xs : List ℕ). at xs 1) q))

pub shows_by : (z : ℤ) → Form z → Shows z
shows_by z (below l h e) = record {
  four = ap length e;
  tells = λ i. clash_ℤ (yes l) i.from;
  minus = λ i. clash_ℤ (yes l) i.from;
  low_below = (λ q. yes l, λ q. e);
  high_above = rw e (only low high (apart low high (omega arith)) h);
  no_blank = rw e (apart low (replicate window_width 32) (omega arith));
}
shows_by z (above l h e) = record {
  four = ap length e;
  tells = λ i. clash_ℤ (yes h) i.to;
  minus = λ i. clash_ℤ (yes h) i.to;
  low_below = rw e (only high low (apart high low (omega arith)) l);
  high_above = (λ q. yes h, λ q. e);
  no_blank = rw e (apart high (replicate window_width 32) (omega arith));
}
shows_by z (short n is l e) = subst Shows (sym is) (short_shows n l (ap window_text (sym is) ∙ e))
shows_by z (one_digit n is l e) =
    subst Shows (sym is)
    (spare_shows 32 (48 + n / 10) (48 + n % 10) n (omega arith) (ap window_text (sym is) ∙ e)
    (omega arith, omega arith, omega arith) (omega arith) (omega arith))
shows_by z (two_digits n is l h e) =
    subst Shows (sym is)
    (spare_shows (48 + n / 100) (48 + n / 10 % 10) (48 + n % 10) n h (ap window_text (sym is) ∙ e)
    (omega arith, omega arith, omega arith) (omega arith) (omega arith))
