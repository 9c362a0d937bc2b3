-- A reading by value: one law for each way through the code.
use Rattle.std.specs.Prelude.{ℕ, zero, suc, ◌≤◌, ◌<◌, ◌≡◌, ◌≢◌, not, [], ◌∷◌, ltb, Ok, Err}
use Rattle.std.proofs.Common.{refl, sym, ap, ◌∙◌, lt-ltb, le-ltb}
use Rattle.base.specs.Checks.{row, check, accepted}
use Rattle.base.proofs.laws.ChecksLaws.{positive, chain_on}
use Rattle.network.specs.Refusals.{refusal_number, too_many_readings}
use Rattle.network.specs.declared.refusals.Refusal.{Refusal}
use Rattle.network.proofs.laws.RefusalLaws.{refusal_some}
use Rattle.plan.specs.Calls.{headroom_rows, headroom_number, headroom_of}
use Rattle.plan.proofs.theorems.Numbers.{headroom_is}
use Rattle.plan.specs.declared.Plan.{Plan}
use Rattle.plan.specs.Results.{as_headroom}
use Rattle.plan.specs.declared.HeadroomFound.{HeadroomFound}
use Rattle.plan.specs.declared.HeadroomReply.{HeadroomReply}
use Rattle.gate_window.specs.Reading.{max_readings, reading_number, read, not_read, reading_of}
use Rattle.gate_window.specs.declared.Window.{Window}

-- ---- the reading; h is the headroom that the code found
-- what the record's own row says
abbrev own : ℕ → ℕ
own count = check (not (ltb count max_readings)) too_many_readings 0

module _ (p : Plan) (s t demand : ℕ) (h : HeadroomReply) (is : h ≡ headroom_of p s t demand) where
  -- its number is the headroom's, or that of the record's own row
  pub number_by : (count : ℕ) → reading_number p count s t demand ≡ accepted h.number (own count) (λ e. e)
  unfolding reading_number headroom_number positive
  number_by count =
      chain_on (headroom_rows p s t demand []) (row (not (ltb count max_readings)) too_many_readings ∷ []) refl
      ∙ ap (λ e. accepted e (own count) (λ e. e))
      (sym (headroom_is p s t demand) ∙ ap (λ (h : HeadroomReply). h.number) (sym is))

  module _ (w : Window) where
    found : reading_of p w s t demand
        ≡ accepted (accepted h.number (own w.count) (λ e. e)) (read w h.value) (not_read w)
    unfolding reading_of
    found = rw (number_by w.count, ← is)

    pub not_read_lem : h.number ≢ 0 → not_read w h.number ≡ reading_of p w s t demand
    not_read_lem d = sym (found ∙ go h.number d)
      where
        go : (e : ℕ) → e ≢ 0 → accepted (accepted e (own w.count) (λ e. e)) (read w h.value) (not_read w) ≡ not_read w e
        go zero d = absurd (d refl)
        go (suc e) d = refl

    pub full : h.number ≡ 0 → max_readings ≤ w.count → not_read w too_many_readings ≡ reading_of p w s t demand
    full z l = sym (found ∙ rw (z, le-ltb w.count max_readings l))

    pub is_read : h.number ≡ 0 → w.count < max_readings → read w h.value ≡ reading_of p w s t demand
    is_read z l = sym (found ∙ rw (z, lt-ltb w.count max_readings l))

-- ---- by the headroom's result
module _ (p : Plan) (s t demand : ℕ) (w : Window) where
  pub refused_is : (e : Refusal) → as_headroom (Err e) ≡ headroom_of p s t demand
      → not_read w (refusal_number e) ≡ reading_of p w s t demand
  refused_is e is = not_read_lem p s t demand (as_headroom (Err e)) is w (refusal_some e)

  module _ (h : HeadroomFound) (is : as_headroom (Ok h) ≡ headroom_of p s t demand) where
    pub full_is : max_readings ≤ w.count → not_read w too_many_readings ≡ reading_of p w s t demand
    full_is l = full p s t demand (as_headroom (Ok h)) is w refl l

    pub read_is : w.count < max_readings → read w h.value ≡ reading_of p w s t demand
    read_is l = is_read p s t demand (as_headroom (Ok h)) is w refl l
