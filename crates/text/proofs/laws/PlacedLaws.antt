-- Digits that are put before a point, and a minus before them: the text is right-aligned.
use Rattle.std.specs.Prelude.{◌≡◌, refl, true, false, List, [], ◌∷◌, ◌++◌, ℕ, zero, suc, ◌+◌, ◌-◌, ◌/◌, ◌%◌, ◌^◌}
use Rattle.std.specs.Prelude.{◌≤◌, ◌<◌, length, replicate, set, take, drop}
use Rattle.std.proofs.Common.{sym, ap, ap₂, subst, ◌∙◌, rules, arith, length-append}
use Rattle.std.proofs.lemmas.List.{length-take-le, take-append-drop, take-append-le, take-replicate, set-get_or}
use Rattle.std.proofs.lemmas.Fmt.{AppendsLastDigit, decimal_from_appends, length-decimal-le}
use Rattle.std.specs.Fmt as fmt
use Rattle.text.specs.Text.{digits, decimal}
use Rattle.text.specs.code.Columns.{tenths_from}
use Rattle.text.proofs.laws.TextLaws.{tenths_by}

appends : AppendsLastDigit digits
unfolding digits
appends = search rules

-- std's decimal is the definition's
pub decimal_is : (n : ℕ) → n < 2 ^ 64 → decimal n ≡ fmt.decimal n
decimal_is n l = decimal_from_appends digits appends 20 n l (length-decimal-le 20 n (omega arith) (omega arith) l)

-- what is put at the front of a buffer, how long that front is, and that a byte put where it stands changes nothing
pub ruleset putting = (decimal_is, length-take-le, set-get_or)

-- ---- digits that end at the point, in a text that was blank before it
abbrev behind : ℕ → List ℕ
behind m = 46 ∷ (48 + m % 10) ∷ []

put_minus : (a : ℕ) (xs : List ℕ) → set (replicate (suc a) 32 ++ xs) a 45 ≡ replicate a 32 ++ (45 ∷ xs)
put_minus zero xs = refl
put_minus (suc a) xs = ap (λ (ys : List ℕ). 32 ∷ ys) (put_minus a xs)

-- there is room for a minus
pub sign_room : (m s : ℕ) → m ≤ 2 ^ 31 → s + length (fmt.decimal (m / 10)) ≡ 10 → 1 ≤ s
sign_room m s l e = omega (arith, length-decimal-le 9 (m / 10) (omega arith) (omega arith) (omega arith))

-- the text before the digits is left as it was, where that is blank
pub still_blank : {v : ℕ} (m s : ℕ) (out : List ℕ) → v ≡ 32 → take s out ≡ take s (replicate 10 v ++ behind m)
    → take s out ≡ take s (replicate 10 32 ++ behind m)
still_blank m s out e t = subst (λ (u : ℕ). take s out ≡ take s (replicate 10 u ++ behind m)) e t

module _ (m s : ℕ) (out : List ℕ) (l : m ≤ 2 ^ 31) (e : s + length (fmt.decimal (m / 10)) ≡ 10)
    (d : drop s out ≡ fmt.decimal (m / 10) ++ behind m) (t : take s out ≡ take s (replicate 10 32 ++ behind m)) where
  abbrev text : List ℕ
  text = decimal (m / 10) ++ behind m

  blank : take s (replicate 10 32 ++ behind m) ≡ replicate s 32
  blank = take-append-le s (replicate 10 32) (behind m) (omega arith) ∙ take-replicate s 10 32 (omega arith)

  is : decimal (m / 10) ≡ fmt.decimal (m / 10)
  is = decimal_is (m / 10) (omega arith)

  size : length text ≡ 12 - s
  size = omega (arith, length-append (decimal (m / 10)) (behind m), ap length is)

  filled : out ≡ replicate s 32 ++ text
  filled =
      sym (take-append-drop s out)
      ∙ ap₂ (λ (xs ys : List ℕ). xs ++ ys) (t ∙ blank) (d ∙ ap (λ (xs : List ℕ). xs ++ behind m) (sym is))

  pub spare_filled : out ≡ tenths_from m false
  spare_filled = filled ∙ ap (λ (k : ℕ). replicate k 32 ++ text) (omega (arith, size)) ∙ sym (tenths_by m false l)

  pub short_filled : set out (s - 1) 45 ≡ tenths_from m true
  short_filled =
      let one : suc (s - 1) ≡ s = omega (arith, sign_room m s l e) in
      ap (λ (xs : List ℕ). set xs (s - 1) 45) (filled ∙ ap (λ (k : ℕ). replicate k 32 ++ text) (sym one))
      ∙ put_minus (s - 1) text
      ∙ ap (λ (k : ℕ). replicate k 32 ++ (45 ∷ text)) (omega (arith, size, sign_room m s l e))
      ∙ sym (tenths_by m true l)
