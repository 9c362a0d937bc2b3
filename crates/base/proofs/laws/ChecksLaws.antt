-- For any rows of checks: a number is given exactly where its own row's condition holds and those before it fail.
use Rattle.std.specs.Prelude.{ℕ, ◌≤◌, ◌<◌, zero, suc, ◌≡◌, refl, ◌≢◌, ◌↔◌, Bool, true, false, not, ◌&&◌, List, [], ◌∷◌, ◌++◌, ltb, eqb}
use Rattle.std.proofs.Common.{sym, ap, ◌∙◌, true≢false, ltb-true, ltb-false, eqb-true, lt-ltb, le-ltb, eq-eqb, ne_eqb, arith}
use Rattle.std.proofs.lemmas.Bool.{eqb-false, not-true, not-false}
use Rattle.base.specs.Basics.{pick}
use Rattle.base.proofs.laws.Bools.{and_l, and_r, both}
use Rattle.base.specs.Checks.{Row, check, chain, accepted}
use Rattle.base.proofs.theorems.Checks.{given}
use Rattle.base.specs.Conditions.{Meaning, end, means, own_or_later, When, Passes, absent, single, Numbered}

chain_absent : (n : ℕ) (rs : List Row) → absent n rs ≡ true → chain rs ≢ n
unfolding absent
chain_absent n [] e = eqb-false 0 n (not-true (eqb 0 n) e)
chain_absent n (r ∷ rs) e = go r.when (chain_absent n rs (and_r (not (eqb r.number n)) (absent n rs) e))
  where
    go : (b : Bool) → chain rs ≢ n → check b r.number (chain rs) ≢ n
    go true ih = eqb-false r.number n (not-true (eqb r.number n) (and_l _ _ e))
    go false ih = ih

-- its own row
own : (b : Bool) (m n later : ℕ) → m ≡ n → later ≢ n → (check b m later ≡ n) ↔ (b ≡ true)
own true m n later e d = (λ q. refl, λ q. e)
own false m n later e d = (λ q. absurd (d q), λ q. absurd (true≢false (sym q)))

-- a row before it
before : (b : Bool) (m n later : ℕ) → m ≢ n → (check b m later ≡ n) ↔ ((b ≡ false) × (later ≡ n))
before true m n later d = (λ q. absurd (d q), λ q. absurd (true≢false q.0))
before false m n later d = (λ q. (refl, q), λ q. q.1)

infixr 30 ◌and◌
◌and◌ : {A B C D : Type 0} → A ↔ B → C ↔ D → (A × C) ↔ (B × D)
◌and◌ f g = (λ x. (f.0 x.0, g.0 x.1), λ y. (f.1 y.0, g.1 y.1))

also : {A B C : Type 0} → A ↔ B → B ↔ C → A ↔ C
also f g = (λ x. g.0 (f.0 x), λ y. f.1 (g.1 y))

when : {rs : List Row} (table : Meaning rs) (n : ℕ) → single n rs ≡ true → (chain rs ≡ n) ↔ When table n
unfolding single
when end n e = (λ q. q, λ q. q)
when (means {b} {rs} m H F h f rest) n e = go (eqb m n) refl e (λ u. when rest n u)
  where
    go : (x : Bool) → eqb m n ≡ x → pick x (absent n rs) (single n rs) ≡ true
        → (single n rs ≡ true → (chain rs ≡ n) ↔ When rest n) → (check b m (chain rs) ≡ n) ↔ own_or_later x H F (When rest n)
    go true q e ih = also (own b m n (chain rs) (eqb-true m n q) (chain_absent n rs e)) h
    go false q e ih = also (before b m n (chain rs) (eqb-false m n q)) (f and ih e)

-- no row has the number 0
unfoldable pub positive : List Row → Bool
positive [] = true
positive (r ∷ rs) = not (eqb r.number 0) && positive rs

passes : {rs : List Row} (table : Meaning rs) → positive rs ≡ true → (chain rs ≡ 0) ↔ Passes table
unfolding positive
passes end e = (λ q. tt, λ q. refl)
passes (means {b} m H F h f end) e =
    let d = eqb-false m 0 (not-true (eqb m 0) (and_l _ _ e)) in
    also (before b m 0 0 d) (λ q. f.0 q.0, λ q. (f.1 q, refl))
passes (means {b} m H F h f (means k I G i g rest)) e =
    let d = eqb-false m 0 (not-true (eqb m 0) (and_l _ _ e)) in
    also (before b m 0 _ d) (f and passes (means k I G i g rest) (and_r (not (eqb m 0)) _ e))

-- a reply whose number is that of these rows
pub numbered : {rs : List Row} (table : Meaning rs) {number : ℕ} → number ≡ chain rs → positive rs ≡ true → Numbered table number
numbered {rs} table e z = record { given = rw e (given rs); exactly = λ n u. rw e (when table n u); accepted = rw e (passes table z) }

-- ---- tests in words
pub holding : (b : Bool) → (not b ≡ false) ↔ (b ≡ true)
holding b = (not-false b, λ e. ap not e)

pub failing : (b : Bool) → (not b ≡ true) ↔ (b ≡ false)
failing b = (not-true b, λ e. ap not e)

pub above : (m n : ℕ) → (ltb m n ≡ true) ↔ (m < n)
above m n = (ltb-true m n, lt-ltb m n)

pub not_above : (m n : ℕ) → (ltb m n ≡ false) ↔ (n ≤ m)
not_above m n = (ltb-false m n, le-ltb m n)

pub below : (m n : ℕ) → (not (ltb m n) ≡ false) ↔ (m < n)
below m n = (λ e. ltb-true m n (not-false _ e), λ l. ap not (lt-ltb m n l))

pub not_below : (m n : ℕ) → (not (ltb m n) ≡ true) ↔ (n ≤ m)
not_below m n = (λ e. ltb-false m n (not-true _ e), λ l. ap not (le-ltb m n l))

pub equal : (m n : ℕ) → (eqb m n ≡ true) ↔ (m ≡ n)
equal m n = (eqb-true m n, eq-eqb m n)

pub not_equal : (m n : ℕ) → (eqb m n ≡ false) ↔ (m ≢ n)
not_equal m n = (eqb-false m n, ne_eqb m n)

pub unequal : (m n : ℕ) → (not (eqb m n) ≡ true) ↔ (m ≢ n)
unequal m n = (λ e. eqb-false m n (not-true _ e), λ d. ap not (ne_eqb m n d))

pub not_unequal : (m n : ℕ) → (not (eqb m n) ≡ false) ↔ (m ≡ n)
not_unequal m n = (λ e. eqb-true m n (not-false _ e), λ d. ap not (eq-eqb m n d))

-- s and t are nodes; one of them is not
pub both_below : (s t n : ℕ) → (not (ltb s n && ltb t n) ≡ false) ↔ ((s < n) × (t < n))
both_below s t n = (
  λ e. let b = not-false (ltb s n && ltb t n) e in (ltb-true s n (and_l _ _ b), ltb-true t n (and_r (ltb s n) _ b)),
  λ l. ap not (both (lt-ltb s n l.0) (lt-ltb t n l.1)),
)

pub one_not_below : (s t n : ℕ) → (not (ltb s n && ltb t n) ≡ true) ↔ (¬ ((s < n) × (t < n)))
one_not_below s t n = (λ e l. true≢false (sym e ∙ (both_below s t n).1 l), λ h. go (ltb s n && ltb t n) refl h)
  where
    go : (b : Bool) → ltb s n && ltb t n ≡ b → ¬ ((s < n) × (t < n)) → not b ≡ true
    go true e h = absurd (h ((both_below s t n).0 (ap not e)))
    go false e h = refl

-- ---- a reply by its number: accepted x, or refused
pub number_kept : {A : Type 0} (number : A → ℕ) (e : ℕ) (x : A) (refused : ℕ → A) → number x ≡ 0 → ((n : ℕ) → number (refused n) ≡ n)
    → number (accepted e x refused) ≡ e
number_kept number zero x refused z h = z
number_kept number (suc e) x refused z h = h (suc e)

pub refused_by : {A : Type 0} (e : ℕ) (x : A) (refused : ℕ → A) → e ≢ 0 → accepted e x refused ≡ refused e
refused_by zero x refused d = absurd (d refl)
refused_by (suc e) x refused d = refl

-- rows, and those behind them
pub chain_on : (rs later : List Row) → positive rs ≡ true → chain (rs ++ later) ≡ accepted (chain rs) (chain later) (λ e. e)
unfolding positive
chain_on [] later z = refl
chain_on (r ∷ rs) later z =
    go r.when r.number (and_l _ _ z) (chain_on rs later (and_r (not (eqb r.number 0)) (positive rs) z))
  where
    go : (b : Bool) (n : ℕ) → not (eqb n 0) ≡ true → chain (rs ++ later) ≡ accepted (chain rs) (chain later) (λ e. e)
        → check b n (chain (rs ++ later)) ≡ accepted (check b n (chain rs)) (chain later) (λ e. e)
    go true zero u ih = absurd (true≢false (sym u))
    go true (suc n) u ih = refl
    go false n u ih = ih

-- ---- rows that were passed
module _ (b : Bool) (n later : ℕ) (e : check b (suc n) later ≡ 0) where
  pub passed_row : b ≡ false
  passed_row = go b e
    where
      go : (b : Bool) → check b (suc n) later ≡ 0 → b ≡ false
      go true e = absurd (omega arith)
      go false e = refl

  pub later_rows : later ≡ 0
  later_rows = go b e
    where
      go : (b : Bool) → check b (suc n) later ≡ 0 → later ≡ 0
      go true e = absurd (omega arith)
      go false e = e
