-- The text that is filled from the right is the text of a headroom (docs/SCOPE.md, 6).
use Rattle.std.specs.Prelude.{◌≡◌, refl, Bool, true, false, List, [], ◌∷◌, ◌++◌, ℕ, zero, suc, ◌+◌, ◌-◌, ◌/◌, ◌%◌, ◌^◌}
use Rattle.std.specs.Prelude.{◌≤◌, ◌<◌, length, replicate, ltb, ℤ, pos, negsuc, nat_abs}
use Rattle.std.proofs.Common.{sym, ap, ◌∙◌, append_assoc, arith, length-append, ltb-true, ltb-false, lt-ltb}
use Rattle.base.specs.Basics.{pick}
use Rattle.text.specs.Text.{digits, decimal, right_aligned, text_width, text_of}
use Rattle.text.specs.code.Columns.{is_negative, mark_of, leading, tenths_from}

abbrev sign : Bool → List ℕ
sign true = 45 ∷ []
sign false = []

-- the digits of w, and none of 0
abbrev body : ℕ → ℕ → List ℕ
body j zero = []
body j (suc w) = digits j (suc w)

-- all digits but the last, and the last
digits_more : (j v : ℕ) → digits (suc j) v ≡ body j (v / 10) ++ ((48 + v % 10) ∷ [])
unfolding digits
digits_more j v = go (ltb v 10) refl (v / 10) refl
  where
    go : (b : Bool) → ltb v 10 ≡ b → (w : ℕ) → v / 10 ≡ w
        → pick b ((48 + v) ∷ []) (digits j (v / 10) ++ ((48 + v % 10) ∷ [])) ≡ body j w ++ ((48 + v % 10) ∷ [])
    go true e zero q = let f : v % 10 ≡ v = omega (arith, ltb-true v 10 e) in rw f
    go true e (suc w) q = absurd (omega (arith, ltb-true v 10 e))
    go false e zero q = absurd (omega (arith, ltb-false v 10 e))
    go false e (suc w) q = rw q

-- more places than the number needs add nothing
digits_enough : (j n : ℕ) → n < 10 ^ j → 0 < j → digits (suc j) n ≡ digits j n
unfolding digits
digits_enough zero n l p = absurd (omega arith)
digits_enough (suc zero) n l p = rw (lt-ltb n 10 (omega arith))
digits_enough (suc (suc j)) n l p = go (ltb n 10) refl (digits_enough (suc j) (n / 10) (omega arith) (omega arith))
  where
    go : (b : Bool) → ltb n 10 ≡ b → digits (suc (suc j)) (n / 10) ≡ digits (suc j) (n / 10)
        → pick b ((48 + n) ∷ []) (digits (suc (suc j)) (n / 10) ++ ((48 + n % 10) ∷ []))
        ≡ pick b ((48 + n) ∷ []) (digits (suc j) (n / 10) ++ ((48 + n % 10) ∷ []))
    go true e h = refl
    go false e h = ap (λ xs. xs ++ ((48 + n % 10) ∷ [])) h

-- a number of one digit, and of more
pub decimal_one : (n : ℕ) → n < 10 → decimal n ≡ (48 + n) ∷ []
unfolding digits
decimal_one n l = rw (lt-ltb n 10 l)

pub decimal_more : (n : ℕ) → 10 ≤ n → n < 2 ^ 64 → decimal n ≡ decimal (n / 10) ++ ((48 + n % 10) ∷ [])
unfolding digits
decimal_more n l h =
    step (ltb n 10) refl ∙ ap (λ xs. xs ++ ((48 + n % 10) ∷ [])) (sym (digits_enough 19 (n / 10) (omega arith) (omega arith)))
  where
    step : (b : Bool) → ltb n 10 ≡ b
        → pick (ltb n 10) ((48 + n) ∷ []) (digits 19 (n / 10) ++ ((48 + n % 10) ∷ [])) ≡ digits 19 (n / 10) ++ ((48 + n % 10) ∷ [])
    step true e = absurd (omega (arith, ltb-true n 10 e))
    step false e = rw e

body_more : (j w : ℕ) → 0 < w → body (suc j) w ≡ body j (w / 10) ++ ((48 + w % 10) ∷ [])
body_more j zero l = absurd (omega arith)
body_more j (suc w) l = digits_more j (suc w)

length_one : (xs : List ℕ) (d : ℕ) → length (xs ++ (d ∷ [])) ≡ length xs + 1
length_one xs d = length-append xs (d ∷ [])

-- as many digits as the number needs
body_length : (i j w : ℕ) → w < 10 ^ i → i ≤ j → length (body j w) ≤ i
body_length zero j zero l h = omega arith
body_length zero j (suc w) l h = absurd (omega arith)
body_length (suc i) j zero l h = omega arith
body_length (suc i) zero (suc w) l h = absurd (omega arith)
body_length (suc i) (suc j) (suc w) l h =
    rw (body_more j (suc w) (omega arith)) (omega (
      arith,
      length_one (body j (suc w / 10)) (48 + suc w % 10),
      body_length i j (suc w / 10) (omega arith) (omega arith),
    ))

abbrev space : ℕ
space = 32

-- the text is at most 20 bytes long
digits_length : (j n : ℕ) → length (digits j n) ≤ j
unfolding digits
digits_length zero n = omega arith
digits_length (suc j) n = go (ltb n 10) (digits_length j (n / 10))
  where
    go : (b : Bool) → length (digits j (n / 10)) ≤ j → length (pick b ((48 + n) ∷ []) (digits j (n / 10) ++ ((48 + n % 10) ∷ []))) ≤ suc j
    go true h = omega arith
    go false h = omega (arith, length_one (digits j (n / 10)) (48 + n % 10))

pub decimal_length : (n : ℕ) → length (decimal n) ≤ 20
decimal_length n = digits_length 20 n

spaces_more : (k : ℕ) → replicate k space ++ (space ∷ []) ≡ replicate (suc k) space
spaces_more zero = refl
spaces_more (suc k) = ap (λ xs. space ∷ xs) (spaces_more k)

spaces_on : (k j : ℕ) → replicate (k + j) space ≡ replicate k space ++ replicate j space
spaces_on zero j = let e : 0 + j ≡ j = omega arith in rw e
spaces_on (suc k) j = let e : suc k + j ≡ suc (k + j) = omega arith in rw e (ap (λ xs. space ∷ xs) (spaces_on k j))

no_more : (xs : List ℕ) → xs ++ [] ≡ xs
no_more [] = refl
no_more (x ∷ xs) = ap (λ ys. x ∷ ys) (no_more xs)

-- bytes at the end stay at the end
aligned_more : (k : ℕ) (xs ys : List ℕ) → right_aligned (k + length ys) (xs ++ ys) ≡ right_aligned k xs ++ ys
aligned_more k xs ys =
    let e : (k + length ys) - length (xs ++ ys) ≡ k - length xs = omega (arith, length-append xs ys) in
    rw e (sym (append_assoc (replicate (k - length xs) 32) xs ys))

aligned_one : (k : ℕ) (xs : List ℕ) (d : ℕ) → right_aligned (suc k) (xs ++ (d ∷ [])) ≡ right_aligned k xs ++ (d ∷ [])
aligned_one k xs d = let e : suc k ≡ k + 1 = omega arith in ap (λ n. right_aligned n (xs ++ (d ∷ []))) e ∙ aligned_more k xs (d ∷ [])

-- what fits into w places has spaces before it in more
pub aligned_wider : (k w : ℕ) (xs : List ℕ) → length xs ≤ w → right_aligned (k + w) xs ≡ replicate k space ++ right_aligned w xs
aligned_wider k w xs l =
    let e : (k + w) - length xs ≡ k + (w - length xs) = omega arith in
    rw e (ap (λ ys. ys ++ xs) (spaces_on k (w - length xs)) ∙ append_assoc (replicate k space) (replicate (w - length xs) space) xs)

leading_zero : (k : ℕ) → leading k 0 false ≡ replicate k space
unfolding leading mark_of
leading_zero zero = refl
leading_zero (suc k) = ap (λ xs. xs ++ (32 ∷ [])) (leading_zero k) ∙ spaces_more k

-- the places before the point but the last: spaces, the sign, the digits
leading_is : (k j w : ℕ) (negative : Bool) → w < 10 ^ j → length (sign negative ++ body j w) ≤ k
    → leading k w negative ≡ right_aligned k (sign negative ++ body j w)
unfolding leading mark_of
leading_is zero j zero true l h = absurd (omega arith)
leading_is zero j zero false l h = refl
leading_is zero j (suc w) true l h = absurd (omega arith)
leading_is zero zero (suc w) false l h = absurd (omega arith)
leading_is zero (suc j) (suc w) false l h =
    absurd (omega (arith, ap length (body_more j (suc w) (omega arith)), length_one (body j (suc w / 10)) (48 + suc w % 10)))
leading_is (suc k) j zero true l h = let e : suc k - 1 ≡ k = omega arith in rw e (ap (λ xs. xs ++ (45 ∷ [])) (leading_zero k))
leading_is (suc k) j zero false l h =
    let e : suc k - 0 ≡ suc k =
    omega arith in rw e (ap (λ xs. xs ++ (32 ∷ [])) (leading_zero k) ∙ spaces_more k ∙ sym (no_more (replicate (suc k) space)))
leading_is (suc k) zero (suc w) negative l h = absurd (omega arith)
leading_is (suc k) (suc j) (suc w) negative l h =
    ap (λ xs. xs ++ ((48 + suc w % 10) ∷ [])) (leading_is k j (suc w / 10) negative (omega arith) shorter)
    ∙ sym (aligned_one k (sign negative ++ body j (suc w / 10)) (48 + suc w % 10)) ∙ ap (right_aligned (suc k)) (sym split)
  where
    split : sign negative ++ body (suc j) (suc w) ≡ (sign negative ++ body j (suc w / 10)) ++ ((48 + suc w % 10) ∷ [])
    split =
        ap (λ xs. sign negative ++ xs) (body_more j (suc w) (omega arith))
        ∙ sym (append_assoc (sign negative) (body j (suc w / 10)) ((48 + suc w % 10) ∷ []))

    shorter : length (sign negative ++ body j (suc w / 10)) ≤ k
    shorter = omega (arith, ap length split, length_one (sign negative ++ body j (suc w / 10)) (48 + suc w % 10))

sign_length : (b : Bool) → length (sign b) ≤ 1
sign_length true = omega arith
sign_length false = omega arith

pub tenths_by : (m : ℕ) (negative : Bool) → m ≤ 2 ^ 31
    → tenths_from m negative ≡ right_aligned text_width (sign negative ++ (decimal (m / 10) ++ (46 ∷ (48 + m % 10) ∷ [])))
unfolding tenths_from
tenths_by m negative l =
    ap (λ xs. xs ++ last) (leading_is 9 19 (m / 100) negative (omega arith) fits)
    ∙ sym (aligned_more 9 (sign negative ++ body 19 (m / 100)) last) ∙ ap (right_aligned 12) (sym split)
  where
    last : List ℕ
    last = (48 + m / 10 % 10) ∷ 46 ∷ (48 + m % 10) ∷ []

    fits : length (sign negative ++ body 19 (m / 100)) ≤ 9
    fits =
        omega (
          arith,
          length-append (sign negative) (body 19 (m / 100)),
          sign_length negative,
          body_length 8 19 (m / 100) (omega arith) (omega arith),
        )

    tens : m / 10 / 10 ≡ m / 100
    tens = omega arith

    split : sign negative ++ (decimal (m / 10) ++ (46 ∷ (48 + m % 10) ∷ [])) ≡ (sign negative ++ body 19 (m / 100)) ++ last
    split =
        ap (λ xs. sign negative ++ (xs ++ (46 ∷ (48 + m % 10) ∷ [])))
        (digits_more 19 (m / 10) ∙ ap (λ w. body 19 w ++ ((48 + m / 10 % 10) ∷ [])) tens)
        ∙ ap (λ xs. sign negative ++ xs) (append_assoc (body 19 (m / 100)) ((48 + m / 10 % 10) ∷ []) (46 ∷ (48 + m % 10) ∷ []))
        ∙ sym (append_assoc (sign negative) (body 19 (m / 100)) last)

pub tenths_text : (z : ℤ) → nat_abs z ≤ 2 ^ 31 → tenths_from (nat_abs z) (is_negative z) ≡ text_of z
unfolding text_of
tenths_text (pos n) l = tenths_by n false l
tenths_text (negsuc n) l = tenths_by (suc n) true l
