-- The flow call: its rows, and what it promises where it is refused and where the buffer was filled.
use Rattle.std.proofs.Common.{◌≡◌, ◌≢◌, true, false, not, [], ◌∷◌, refl, List, ℕ, ◌<◌, length, ltb, eqb, ◌&&◌, ℤ, sym, ◌∙◌}
use Rattle.std.proofs.Common.{arith, eq-eqb, ne_eqb}
use Rattle.std.proofs.lemmas.Bool.{eqb-false}
use Rattle.base.specs.Checks.{row, chain, accepted}
use Rattle.base.proofs.laws.ChecksLaws.{positive, both_below, refused_by, passed_row, later_rows, chain_on}
use Rattle.cut_tree.specs.Path.{pair_rows, query_number}
use Rattle.max_flow.specs.LargestFlow.{LargestFlow}
use Rattle.network.specs.Refusals.{flow_length, refusal_number}
use Rattle.network.specs.declared.refusals.Refusal.{Refusal}
use Rattle.plan.specs.Plan.{sound}
use Rattle.plan.specs.Calls.{flow_number, Flowed}
use Rattle.network.proofs.laws.RefusalLaws.{refusal_some}
use Rattle.plan.specs.declared.Plan.{Plan}
use Rattle.plan.proofs.laws.SoundFacts.{sound_network}

module _ (p : Plan) (s t : ℕ) (before : List ℤ) where
  abbrev n : ℕ
  n = p.network.nodes

  abbrev size : ℕ
  size = length before

  refused_with : (number : ℕ) → number ≡ flow_number p s t size → number ≢ 0 → Flowed p s t before number before
  refused_with number e d = record {
    number_is = e;
    lawful = λ z. absurd (d z);
    total = λ z. absurd (d z);
    untouched = λ d. refl;
  }

  filled_with : (behind : List ℤ) → 0 ≡ flow_number p s t size → LargestFlow p.network s t behind → Flowed p s t before 0 behind
  filled_with behind e f = record {
    number_is = e;
    lawful = λ z. f.lawful;
    total = λ z. f.total;
    untouched = λ d. absurd (d refl);
  }

  -- ---- by the code's tests
  pub flow_unsound : sound p ≡ false → Flowed p s t before 19 before
  unfolding flow_number
  flow_unsound f = refused_with 19 (rw f) (λ z. omega arith)

  module _ (f : sound p ≡ true) where
    by_pair : flow_number p s t size
        ≡ accepted (query_number n s t) (chain (row (not (eqb size p.network.links)) flow_length ∷ [])) (λ e. e)
    unfolding flow_number positive
    by_pair = rw f (chain_on (pair_rows n s t []) (row (not (eqb size p.network.links)) flow_length ∷ []) refl)

    pub flow_no_pair : (e : Refusal) → refusal_number e ≡ query_number n s t → Flowed p s t before (refusal_number e) before
    flow_no_pair e q =
        let number = sym (by_pair ∙ rw (← q) (refused_by (refusal_number e) _ (λ x. x) (refusal_some e))) in
        refused_with (refusal_number e) number (refusal_some e)

    module _ (z : 0 ≡ query_number n s t) where
      pub flow_unfit : size ≢ p.network.links → Flowed p s t before 16 before
      flow_unfit d = refused_with 16 (sym (by_pair ∙ rw (sym z, ne_eqb size p.network.links d))) (λ z. omega arith)

      pub flow_fits : size ≡ p.network.links → (behind : List ℤ) → LargestFlow p.network s t behind → Flowed p s t before 0 behind
      flow_fits q behind h = filled_with behind (sym (by_pair ∙ rw (sym z, eq-eqb size p.network.links q))) h

-- two nodes that can be asked for
pub pair_passes : (n s t : ℕ) → 0 ≡ query_number n s t → (s < n) × (t < n) × (s ≢ t)
pair_passes n s t z =
    let nodes = (both_below s t n).0 (passed_row (not (ltb s n && ltb t n)) 13 _ (sym z)) in
    let apart = passed_row (eqb s t) 14 _ (later_rows (not (ltb s n && ltb t n)) 13 _ (sym z)) in
    (nodes.0, nodes.1, eqb-false s t apart)

-- what the code needs
pub ruleset flowing = (pair_passes, flow_unsound, flow_no_pair, flow_unfit, flow_fits, sound_network)
