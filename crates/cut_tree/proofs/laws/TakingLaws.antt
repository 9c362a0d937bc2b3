-- Laws of the keeping test's code, one for each way through it.
use Rattle.std.specs.Prelude.{◌≡◌, Bool, true, false, not, ◌&&◌, ℕ, ◌-◌, ◌≤◌, ◌<◌, leb, eqb, None, Some}
use Rattle.std.proofs.Common.{refl, sym, ◌∙◌, true≢false, arith, leb-true, eq-eqb, ne_eqb, lt-ltb, le-ltb}
use Rattle.std.proofs.Math.Bool.{or-false}
use Rattle.std.proofs.Math.Decide.{dec_lt}
use Rattle.base.specs.Basics.{pick, at}
use Rattle.network.specs.declared.Network.{Network}
use Rattle.cut_tree.specs.Rule.{least_cut}
use Rattle.cut_tree.specs.Rebuild.{kept_by, kept_or_least_by}
use Rattle.cut_tree.specs.code.RebuildParts.{crossed, survived, step_kept, kept_cut, kept, kept_or_least, step_of}
use Rattle.cut_tree.specs.declared.Steps.{Steps}
use Rattle.cut_tree.specs.declared.keep.Change.{Change}
use Rattle.cut_tree.specs.declared.Recorded.{Recorded}

-- ---- the test
module _ (h : Change) (side value : ℕ) where
  -- the link's capacity
  abbrev was : ℕ
  was = h.link.capacity

  pub survived_same : was ≡ h.new → true ≡ survived h side value
  unfolding survived
  survived_same e = rw (eq-eqb was h.new e)

  module _ (c : Bool) (e : c ≡ crossed h side) where
    pub survived_rise : was < h.new → not c ≡ survived h side value
    unfolding survived
    survived_rise l =
        rw (ne_eqb was h.new (omega arith), lt-ltb was h.new l, le-ltb h.new was (omega arith), ← e)
        (sym (or-false (not c)))

    module _ (n : was ≡ h.new → ⊥) (l : h.new ≤ was) where
      pub survived_fall : c ≡ true → leb (was - h.new) value ≡ survived h side value
      unfolding survived
      survived_fall q = rw (ne_eqb was h.new n, le-ltb was h.new l, lt-ltb h.new was (omega arith), ← e, q)

      pub survived_not : c ≡ false → false ≡ survived h side value
      unfolding survived
      survived_not q = rw (ne_eqb was h.new n, le-ltb was h.new l, lt-ltb h.new was (omega arith), ← e, q)

  -- what survives has room for the fall
  pub survived_fits : survived h side value ≡ true → was - h.new ≤ value
  survived_fits s = go (dec_lt h.new was) (crossed h side) refl
    where
      go : Dec (h.new < was) → (c : Bool) → c ≡ crossed h side → was - h.new ≤ value
      go (no n) c e = omega arith
      go (yes l) true e = leb-true _ _ (survived_fall true e (omega arith) (omega arith) refl ∙ s)
      go (yes l) false e = absurd (true≢false (sym (survived_not false e (omega arith) (omega arith) refl ∙ s)))

pub ruleset surviving = (survived_same, survived_rise, survived_fall, survived_not)

-- ---- a step that is kept
module _ (h : Change) (o : Recorded) (t : ℕ) where
  pub kept_moved : (o.pivot ≡ t → ⊥) → None ≡ kept h o t
  unfolding kept step_kept
  kept_moved n = rw (ne_eqb o.pivot t n)

  pub kept_not : (b : Bool) → o.pivot ≡ t → b ≡ survived h o.cut.side o.cut.value → b ≡ false → None ≡ kept h o t
  unfolding kept step_kept
  kept_not b e s f = rw (eq-eqb o.pivot t e, ← s, f)

  pub kept_so : (b : Bool) → o.pivot ≡ t → b ≡ survived h o.cut.side o.cut.value → b ≡ true
      → Some (kept_cut h o) ≡ kept h o t
  unfolding kept step_kept
  kept_so b e s f = rw (eq-eqb o.pivot t e, ← s, f) refl

pub ruleset keeping = (kept_moved, kept_not, kept_so)

-- the cut of a step that is kept, or else worked out, is a rebuild's
pub kept_gives : (net : Network) (h : Change) (steps : Steps) (s t : ℕ)
    → kept_or_least net s t (kept h (step_of steps s) t)
    ≡ kept_or_least_by net (survived h) (h.link.capacity - h.new) steps s t
unfolding kept step_kept kept_or_least_by kept_by
kept_gives net h steps s t = go (eqb (at steps.pivot s) t && survived h (at steps.side s) (at steps.value s))
  where
    go : (b : Bool)
        → kept_or_least net s t (pick b (Some (kept_cut h (step_of steps s))) None)
        ≡ pick b (record { side = at steps.side s; value = at steps.value s - (h.link.capacity - h.new); anew = 0 })
        (least_cut net s t)
    go true = refl
    go false = refl
