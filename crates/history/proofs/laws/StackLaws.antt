-- The machine's stack as the plan's arrays: its depth, its limits, its top, and what a pop leaves.
use Rattle.std.specs.Prelude.{◌≡◌, refl, true, List, [], ◌∷◌, ℕ, ◌-◌, ◌≤◌, ◌<◌, length}
use Rattle.std.proofs.Common.{sym, ◌∙◌, length-set, set-set, le-leb, arith}
use Rattle.std.proofs.Math.Path.{ap}
use Rattle.std.proofs.Math.ListN.{set}
use Rattle.std.proofs.lemmas.List.{length-replicate, set-get_or}
use Rattle.std.proofs.Math.Seq.{get_or-set_same}
use Rattle.base.specs.Basics.{at, blank_from}
use Rattle.base.proofs.laws.TestLaws.{all_in, none, ◌&◌, test}
use Rattle.base.proofs.laws.BlankLaws.{blank_at, blank_zeros, blank_behind}
use Rattle.network.specs.Limits.{max_capacity}
use Rattle.plan.specs.Plan.{max_depth, entry_fits, stack_fits, no_stack, pop}
use Rattle.plan.proofs.laws.PushLaws.{push_fits}
use Rattle.history.specs.Machine.{Entry, stack_of}

pub stack_depth : (es : List Entry) → (stack_of es).depth ≡ length es
unfolding stack_of
stack_depth [] = refl
stack_depth (e ∷ es) = omega (arith, stack_depth es)

stack_link : (es : List Entry) → length (stack_of es).link ≡ max_depth
unfolding stack_of
stack_link [] = length-replicate {A = ℕ} max_depth 0
stack_link (e ∷ es) = length-set (stack_of es).link (stack_of es).depth e.link ∙ stack_link es

stack_capacity : (es : List Entry) → length (stack_of es).capacity ≡ max_depth
unfolding stack_of
stack_capacity [] = length-replicate {A = ℕ} max_depth 0
stack_capacity (e ∷ es) = length-set (stack_of es).capacity (stack_of es).depth e.capacity ∙ stack_capacity es

stack_blank : (es : List Entry)
    → (blank_from (stack_of es).depth (stack_of es).link ≡ true) × (blank_from (stack_of es).depth (stack_of es).capacity ≡ true)
unfolding stack_of
stack_blank [] = (blank_zeros max_depth, blank_zeros max_depth)
stack_blank (e ∷ es) =
    let p = stack_of es in
    let h = stack_blank es in
    (blank_behind p.depth e.link p.link h.0, blank_behind p.depth e.capacity p.capacity h.1)

-- ---- its limits
abbrev pub Entries : ℕ → List Entry → Type 0
Entries m [] = Unit {0}
Entries m (e ∷ es) = (e.link < m) × (e.capacity ≤ max_capacity) × Entries m es

pub stack_fits_lem : (m : ℕ) (es : List Entry) → Entries m es → length es ≤ max_depth → stack_fits m (stack_of es) ≡ true
unfolding stack_of stack_fits
stack_fits_lem m [] f l =
    test (le-leb 0 max_depth (omega arith) & all_in 0 (entry_fits m no_stack) (λ i l. absurd (omega arith))
    & blank_zeros max_depth & blank_zeros max_depth & none)
stack_fits_lem m (e ∷ es) f l =
    push_fits m (stack_of es) (stack_fits_lem m es f.2 (omega arith)) e.link e.capacity f.0 f.1 (omega (arith, stack_depth es))

-- ---- its top, and what a pop leaves
module _ (e : Entry) (es : List Entry) (l : length es < max_depth) where
  depth_is : (stack_of (e ∷ es)).depth - 1 ≡ (stack_of es).depth
  unfolding stack_of
  depth_is = omega arith

  pub top_link : at (stack_of (e ∷ es)).link ((stack_of (e ∷ es)).depth - 1) ≡ e.link
  unfolding stack_of
  top_link =
      ap (at (stack_of (e ∷ es)).link) depth_is
      ∙ get_or-set_same (stack_of es).link (stack_of es).depth e.link 0 (omega (arith, stack_depth es, stack_link es))

  pub top_capacity : at (stack_of (e ∷ es)).capacity ((stack_of (e ∷ es)).depth - 1) ≡ e.capacity
  unfolding stack_of
  top_capacity =
      ap (at (stack_of (e ∷ es)).capacity) depth_is
      ∙ get_or-set_same (stack_of es).capacity (stack_of es).depth e.capacity 0 (omega (arith, stack_depth es, stack_capacity es))

  -- a place that was 0, set and set to 0 again
  again : (xs : List ℕ) (d v : ℕ) → at xs d ≡ 0 → set (set xs d v) d 0 ≡ xs
  again xs d v h = set-set xs d v 0 ∙ ap (set xs d) (sym h) ∙ set-get_or xs d 0

  pub pop_stack : pop (stack_of (e ∷ es)) ≡ stack_of es
  unfolding stack_of
  pop_stack =
      let p = stack_of es in
      let h = stack_blank es in
      λ i. record {
        depth = depth_is i;
        link = (ap (λ d. set (stack_of (e ∷ es)).link d 0) depth_is
            ∙ again p.link p.depth e.link (blank_at p.depth p.link h.0)) i;
        capacity =
            (ap (λ d. set (stack_of (e ∷ es)).capacity d 0) depth_is
            ∙ again p.capacity p.depth e.capacity (blank_at p.depth p.capacity h.1)) i;
      }
