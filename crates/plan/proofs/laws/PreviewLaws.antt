-- A preview by its rows: refused by the change's, then by the pair's; else the changed tree's answer with the count.
use Rattle.std.proofs.Common.{◌≡◌, ◌≢◌, [], refl, sym, ◌∙◌, arith, ℕ, zero, suc}
use Rattle.base.specs.Checks.{accepted}
use Rattle.base.proofs.laws.ChecksLaws.{positive, refused_by, chain_on}
use Rattle.cut_tree.specs.Rebuild.{rebuilt}
use Rattle.cut_tree.specs.Path.{Climbs, pair_rows, query_number, answer, query_of}
use Rattle.cut_tree.specs.code.RebuildParts.{Changes}
use Rattle.cut_tree.specs.Path.{PairAnswer}
use Rattle.cut_tree.specs.Path.{Refused}
use Rattle.cut_tree.specs.declared.Built.{Built}
use Rattle.plan.specs.Calls.{change_rows, change_number, altered, unaltered, changed, change_of, pair_of}
use Rattle.plan.specs.Calls.{no_preview, preview_by, preview_of, preview_number}
use Rattle.plan.proofs.laws.SoundFacts.{sound_climbs}
use Rattle.plan.proofs.laws.AnswersLaws.{pair_query}
use Rattle.plan.proofs.laws.ChangesLaws.{change_assumes}
use Rattle.plan.proofs.laws.AlteredLaws.{changed_sound}
use Rattle.plan.specs.declared.Plan.{Plan}
use Rattle.plan.specs.Calls.{PreviewReply}
use Rattle.network.proofs.laws.RefusalLaws.{refusal_some}

module _ (p : Plan) (k c s t : ℕ) where
  abbrev n : ℕ
  n = p.network.nodes

  abbrev b : Built
  b = rebuilt p.network p.steps k c

  -- ---- its number
  number_is : preview_number p k c s t ≡ accepted (change_number p k c) (query_number n s t) (λ e. e)
  unfolding preview_number change_number positive
  number_is = chain_on (change_rows p k c []) (pair_rows n s t []) refl

  pub by_change : (r : ℕ) → r ≡ change_number p k c → r ≢ 0 → r ≡ preview_number p k c s t
  by_change r e d = sym (number_is ∙ rw (← e) (refused_by r (query_number n s t) (λ e. e) d))

  pub by_pair : (r : ℕ) → r ≡ change_number p k c → r ≡ 0 → (q : ℕ) → q ≡ query_number n s t → q ≡ preview_number p k c s t
  by_pair r e z q f = rw number_is (rw (sym e ∙ z) f)

  no_row : preview_number p k c s t ≡ 0 → (change_number p k c ≡ 0) × (query_number n s t ≡ 0)
  no_row z = go (change_number p k c) refl (sym number_is ∙ z)
    where
      go : (e : ℕ) → change_number p k c ≡ e → accepted e (query_number n s t) (λ e. e) ≡ 0
          → (change_number p k c ≡ 0) × (query_number n s t ≡ 0)
      go zero q h = (q, h)
      go (suc e) q h = absurd (omega arith)

  -- ---- its reply
  abbrev pub shown : PreviewReply
  shown = preview_by (answer b.tree n s t) b.count

  pairs : (e : ℕ) → preview_by (accepted e (answer b.tree n s t) Refused) b.count ≡ accepted e shown no_preview
  unfolding answer
  pairs zero = refl
  pairs (suc e) = refl

  copy_pair : change_number p k c ≡ 0 → pair_of (changed p k c).plan s t ≡ query_of b.tree n s t
  unfolding altered
  copy_pair z = pair_query (changed p k c).plan s t (changed_sound p k c z)

  pub preview_is : preview_of p k c s t ≡ accepted (preview_number p k c s t) shown no_preview
  unfolding preview_of change_of altered query_of
  preview_is = rw number_is (go (change_number p k c) refl)
    where
      go : (e : ℕ) → change_number p k c ≡ e → let copy = accepted e (changed p k c) (unaltered p) in
          accepted copy.number (preview_by (pair_of copy.plan s t) copy.count) no_preview
          ≡ accepted (accepted e (query_number n s t) (λ e. e)) shown no_preview
      go zero z = rw (copy_pair z) (pairs (query_number n s t))
      go (suc e) z = refl

  -- r is the number that the code worked out
  module _ (r : ℕ) (e : r ≡ preview_number p k c s t) where
    pub preview_refused : r ≢ 0 → no_preview r ≡ preview_of p k c s t
    preview_refused d = sym (preview_is ∙ rw (← e) (refused_by r shown no_preview d))

    module _ (z : r ≡ 0) where
      pub preview_assumes : Changes p.network k c
      preview_assumes = (change_assumes p k c 0 (sym (no_row (sym e ∙ z)).0) refl).0

      -- x is what the code built
      module _ (x : Built) (g : x ≡ b) where
        pub preview_climbs : Climbs n x.tree.parent
        unfolding altered
        preview_climbs = rw g (sound_climbs (changed p k c).plan (changed_sound p k c (no_row (sym e ∙ z)).0))

        -- by the pair's answer, whatever it is
        pub preview_shows : (a : PairAnswer) → a ≡ query_of x.tree n s t → preview_by a x.count ≡ preview_of p k c s t
        unfolding query_of answer
        preview_shows a f = rw (f, g, preview_is, sym e ∙ z, (no_row (sym e ∙ z)).1)

-- ---- what the code of the checks and of the call needs
pub ruleset checking = (refusal_some, by_change, by_pair)

pub ruleset previewing = (refusal_some, preview_refused, preview_assumes, preview_climbs)
