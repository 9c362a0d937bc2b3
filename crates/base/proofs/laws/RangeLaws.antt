-- A test of all numbers of a range, as an iterator over them makes it.
use Rattle.std.specs.Prelude.{◌≡◌, refl, Bool, true, false, ◌&&◌, ℕ, zero, suc, ◌+◌, ◌-◌, List, Option, MatchOption}
use Rattle.std.specs.Fn.{Called}
use Rattle.std.specs.Iterator.{YieldsThen}
use Rattle.std.specs.List.{FoldsTo, list_all, range_with_len}
use Rattle.std.specs.declared.ops.Range.{Range}
use Rattle.std.proofs.Common.{ap, sym, ◌∙◌, arith}
use Rattle.std.proofs.iter.Yields.{nat_range_steps}
use Rattle.std.proofs.lemmas.Iterator.{YieldsList-from_range}
use Rattle.std.proofs.lemmas.Iterator.Search.{all_from_yields_List}
use denote.Param.Members.{Mut}
use Rattle.base.specs.Basics.{all}
use Rattle.base.proofs.laws.TestLaws.{all_none, all_more, all_fails}

-- those from a on, where those before a passed
all_on : (f : ℕ → Bool) (a m : ℕ) → all a f ≡ true → list_all f (range_with_len a m) ≡ all (a + m) f
all_on f a zero e = sym e ∙ ap (λ n. all n f) (omega arith)
all_on f a (suc m) e = go (f a) refl (all_on f (a + 1) m)
  where
    go : (b : Bool) → f a ≡ b → (all (a + 1) f ≡ true → list_all f (range_with_len (a + 1) m) ≡ all (a + 1 + m) f)
        → (f a && list_all f (range_with_len (a + 1) m)) ≡ all (a + suc m) f
    go true h ih = rw h (ih (all_more a f e h) ∙ ap (λ n. all n f) (omega arith))
    go false h ih = rw h (sym (all_fails (a + suc m) f a (omega arith) h))

pub all_in_range : (f : ℕ → Bool) (m : ℕ) → list_all f (range_with_len 0 m) ≡ all m f
all_in_range f m = all_on f 0 m (all_none f) ∙ ap (λ n. all n f) (omega arith)

-- ---- what `(a..b).all(f)` answers, where the closure f makes the test
module _ {F : Type 0} (g : Mut F (ℕ × Unit {0}) Bool) (f : F) where
  -- how it ran
  abbrev Ran : (a b : ℕ) → Range ℕ → Bool → Type 0
  Ran a b u r = (xs : List ℕ) × (o : Option ℕ) × (j : F) × YieldsThen nat_range_steps (record { start = a; end = b }) xs o u
      × FoldsTo (λ p x q. Called g p (x, tt) true q) f xs j
      × MatchOption o (r ≡ true) (λ x. (r ≡ false) × ((h : F) × Called g j (x, tt) false h))

  -- what a call of f gives
  abbrev Tests : (ℕ → Bool) → Type 0
  Tests test = (x : ℕ) (b : Bool) (q : F) → Called g f (x, tt) b q → (q ≡ f) × (b ≡ test x)

module _ {F : Type 0} {g : Mut F (ℕ × Unit {0}) Bool} {f : F} {u : Range ℕ} {r : Bool} (test : ℕ → Bool) where
  pub all_from_range : (a b : ℕ) → Ran g f a b u r → Tests g f test → r ≡ list_all test (range_with_len a (b - a))
  all_from_range a b ran tests = all_from_yields_List test u f r ran (YieldsList-from_range a b (b - a) refl refl) tests

  pub all_from_zero : (n : ℕ) → Ran g f 0 n u r → Tests g f test → r ≡ all n test
  all_from_zero n ran tests =
      all_from_yields_List test u f r ran (YieldsList-from_range 0 n n refl (omega arith)) tests ∙ all_in_range test n
