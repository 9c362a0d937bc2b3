-- Change and undo, refused and accepted: what the code may assume once no row of the table held, and the reply.
use Rattle.std.proofs.Common.{◌≡◌, ◌≢◌, true, not, false, ℕ, ◌-◌, ◌≤◌, ◌<◌, ltb, eqb, Option, Some, sym, refl, ◌∙◌}
use Rattle.std.proofs.Common.{arith, ltb-true, ltb-false, eq-eqb, ne_eqb}
use Rattle.std.proofs.Math.Decide.{ℕ_discrete}
use Rattle.std.proofs.lemmas.Bool.{eqb-false, not-false}
use Rattle.std.proofs.lemmas.Option.{none-some, same_Some}
use Rattle.network.specs.Limits.{max_capacity}
use Rattle.cut_tree.specs.code.RebuildParts.{Changes}
use Rattle.plan.specs.Plan.{max_depth, sound}
use Rattle.plan.specs.Calls.{change_number, undo_number, altered, unaltered, changed, undone, change_of, undo_of}
use Rattle.plan.specs.code.StackParts.{top, top_of, without_top}
use Rattle.plan.proofs.laws.SoundFacts.{sound_network, sound_depth, sound_entry}
use Rattle.plan.specs.declared.Plan.{Plan}
use Rattle.plan.specs.declared.entries.LinkCapacity.{LinkCapacity}
use Rattle.base.proofs.laws.ChecksLaws.{refused_by, passed_row, later_rows}
use Rattle.network.proofs.laws.RefusalLaws.{refusal_some}
use Rattle.network.proofs.laws.NetworkLaws.{links_le}

-- a reply by its number
-- r is the number that the code worked out
module _ (p : Plan) (k c r : ℕ) (e : r ≡ change_number p k c) where
  pub change_refused : r ≢ 0 → change_of p k c ≡ unaltered p r
  unfolding change_of
  change_refused n = rw (← e) (refused_by r (changed p k c) (unaltered p) n)

  module _ (z : r ≡ 0) where
    pub change_accepted : change_of p k c ≡ changed p k c
    unfolding change_of
    change_accepted = rw (sym e ∙ z)

    pub change_sound : sound p ≡ true
    unfolding change_number
    change_sound = not-false (sound p) (passed_row (not (sound p)) 18 _ (sym e ∙ z))

    pub change_assumes : Changes p.network k c × (p.stack.depth < max_depth)
    unfolding change_number
    change_assumes =
        let m = p.network.links in
        let q = sym e ∙ z in
        let s = change_sound in
        let q1 = later_rows (not (sound p)) 18 _ q in
        let q2 = later_rows (not (ltb k m)) 9 _ q1 in
        let q3 = later_rows (ltb max_capacity c) 10 _ q2 in (
          record {
            fits = sound_network p s;
            link = ltb-true k m (not-false _ (passed_row (not (ltb k m)) 9 _ q1));
            capacity = ltb-false max_capacity c (passed_row (ltb max_capacity c) 10 _ q2);
          },
          let d : p.stack.depth ≢ max_depth =
              eqb-false p.stack.depth max_depth (passed_row (eqb p.stack.depth max_depth) 11 _ q3) in
              omega (arith, sound_depth p s),
        )

module _ (p : Plan) (r : ℕ) (e : r ≡ undo_number p) where
  module _ (z : r ≡ 0) where
    pub undo_accepted : undo_of p ≡ undone p
    unfolding undo_of
    undo_accepted = rw (sym e ∙ z)

    is_sound : sound p ≡ true
    unfolding undo_number
    is_sound = not-false (sound p) (passed_row (not (sound p)) 18 _ (sym e ∙ z))

    pub undo_depth : (0 < p.stack.depth) × (p.stack.depth ≤ max_depth)
    unfolding undo_number
    undo_depth =
        let q = later_rows (not (sound p)) 18 _ (sym e ∙ z) in
        let d : p.stack.depth ≢ 0 = eqb-false p.stack.depth 0 (passed_row (eqb p.stack.depth 0) 12 _ q) in
        (omega arith, sound_depth p is_sound)

    pub undo_assumes : Changes p.network (top p.stack).link (top p.stack).capacity
    undo_assumes =
        let h = sound_entry p is_sound (p.stack.depth - 1) (omega (arith, undo_depth)) in
        record { fits = sound_network p is_sound; link = h.0; capacity = h.1 }

pub undo_unsound : (p : Plan) → sound p ≡ false → unaltered p 19 ≡ undo_of p
unfolding undo_of undo_number
undo_unsound p f = rw f

-- of a sound plan, by what was taken off its stack
module _ (p : Plan) (s : sound p ≡ true) where
  pub undo_empty : (o : Option LinkCapacity) → o ≡ top_of p.stack → ((x : LinkCapacity) → o ≢ Some x)
      → unaltered p 13 ≡ undo_of p
  unfolding undo_of undo_number top_of
  undo_empty o e n = go (ℕ_discrete p.stack.depth 0)
    where
      go : Dec (p.stack.depth ≡ 0) → unaltered p 13 ≡ undo_of p
      go (yes z) = rw (s, eq-eqb p.stack.depth 0 z)
      go (no d) = absurd (n (top p.stack) (e ∙ rw (ne_eqb p.stack.depth 0 d)))

  module _ (x : LinkCapacity) (e : Some x ≡ top_of p.stack) where
    entry : (p.stack.depth ≢ 0) × (x ≡ top p.stack)
    unfolding top_of
    entry = go (ℕ_discrete p.stack.depth 0)
      where
        go : Dec (p.stack.depth ≡ 0) → (p.stack.depth ≢ 0) × (x ≡ top p.stack)
        go (yes z) = absurd (none-some x (sym (e ∙ rw (eq-eqb p.stack.depth 0 z))))
        go (no d) = (d, same_Some x (top p.stack) (e ∙ rw (ne_eqb p.stack.depth 0 d)))

    passes : 0 ≡ undo_number p
    unfolding undo_number
    passes = rw (s, ne_eqb p.stack.depth 0 entry.0)

    pub taken_assumes : Changes p.network x.link x.capacity
    taken_assumes = rw entry.1 (undo_assumes p 0 passes refl)

    pub undo_taken : altered p x.link x.capacity (without_top p.stack) ≡ undo_of p
    unfolding without_top
    undo_taken = rw (entry.1, ne_eqb p.stack.depth 0 entry.0) (sym (undo_accepted p 0 passes refl))

-- what the code of each call needs
pub ruleset changing = (refusal_some, change_refused, change_accepted, change_assumes, links_le)

pub ruleset undoing = (undo_unsound, undo_empty, taken_assumes, undo_taken, sound_depth)
