-- Number 19 of a plan that the caller holds: memory that is no sound plan, and the zeros beside a refused opening.
-- Every call returns 19 and leaves the plan; a preview stores zeros. Assumes nothing.
use Rattle.std.specs.Prelude.{ℕ, ◌≡◌, refl, ◌≢◌, false, List}
use Rattle.std.proofs.Common.{ap, ◌∙◌, arith}
use Rattle.base.specs.Basics.{every}
use Rattle.base.specs.Conditions.{absent, single}
use Rattle.network.specs.Refusals.{not_sound}
use Rattle.network.specs.Network.{network_fits}
use Rattle.cut_tree.specs.Path.{Refused}
use Rattle.plan.specs.Calls.{open_of, no_preview, preview_of}
use Rattle.plan.proofs.theorems.Numbers.{change_numbered, change_refused, undo_numbered, undo_refused}
use Rattle.plan.proofs.theorems.Numbers.{pair_numbered, pair_refused, preview_numbered, preview_refused, flow_numbered}
use Rattle.plan.proofs.theorems.Numbers.{headroom_numbered, write_numbered, opening_refused}
use Rattle.plan.specs.Plan.{sound, no_plan}
use Rattle.plan.specs.Calls.{Changed}
use Rattle.plan.specs.Calls.{Opening}
use Rattle.plan.specs.declared.Plan.{Plan}
use Rattle.plan.specs.Calls.{PreviewReply}
use Rattle.plan.specs.Calls.{Written}
use Rattle.gate_window.proofs.theorems.Numbers.{reading_numbered}
use Rattle.exports.specs.PairReply.{pair_reply}
use Rattle.exports.specs.Made.{Made, pamzolit_change, pamzolit_undo, pamzolit_pair, pamzolit_preview}
use Rattle.exports.specs.Made.{pamzolit_flow, pamzolit_headroom, pamzolit_write, pamzolit_reading, Opened}
use Rattle.exports.specs.Made.{Promise, number_back, plan_in}
use Rattle.exports.specs.declared.held.PairReply.{PairReply}

no_preview_lem : (p : Plan) → sound p ≡ false → (k c s t : ℕ) → preview_of p k c s t ≡ no_preview not_sound
unfolding absent single
no_preview_lem p bad k c s t =
    let n = ((preview_numbered p k c s t).exactly not_sound refl).1 bad in
    preview_refused p k c s t (λ z. omega (arith, n, z)) ∙ ap no_preview n

-- whatever the memory holds, if it is not sound
pub unsound_19 : (p : Plan) → sound p ≡ false → (m : Made) → Promise p m → (number_back m ≡ not_sound) × (plan_in m ≡ p)
unfolding absent single
unsound_19 p bad (pamzolit_change link capacity number count plan) e =
    let n = ((change_numbered p link capacity).exactly not_sound refl).1 bad in (
      ap (λ (r : Changed). r.number) e ∙ n,
      ap (λ (r : Changed). r.plan) e ∙ (change_refused p link capacity (λ z. omega (arith, n, z))).0,
    )
unsound_19 p bad (pamzolit_undo number count plan) e =
    let n = ((undo_numbered p).exactly not_sound refl).1 bad in (
      ap (λ (r : Changed). r.number) e ∙ n,
      ap (λ (r : Changed). r.plan) e ∙ (undo_refused p (λ z. omega (arith, n, z))).0,
    )
unsound_19 p bad (pamzolit_pair s t number reply plan) (e, r, same) =
    let n = ((pair_numbered p s t).exactly not_sound refl).1 bad in
    let refused = pair_refused p s t (λ z. omega (arith, n, z)) in
    (e ∙ ap (λ a. (pair_reply a).number) refused ∙ n, same)
unsound_19 p bad (pamzolit_preview link capacity s t number reply count plan) (e, r, n, same) =
    (e ∙ ap (λ (r : PreviewReply). (pair_reply r.answer).number) (no_preview_lem p bad link capacity s t), same)
unsound_19 p bad (pamzolit_flow s t before number behind plan) (f, same) =
    (((flow_numbered p s t before number behind f).exactly not_sound refl).1 bad, same)
unsound_19 p bad (pamzolit_headroom s t demand number reply plan) (e, r, same) =
    (e ∙ ((headroom_numbered p s t demand).exactly not_sound refl).1 bad, same)
unsound_19 p bad (pamzolit_write before number used behind plan) (e, w, same) =
    (ap (λ (r : Written). r.number) e ∙ ((write_numbered p before).exactly not_sound refl).1 bad, same)
unsound_19 p bad (pamzolit_reading s t demand before number behind reply plan) (e, w, r, same) =
    (e ∙ ((reading_numbered p before s t demand).exactly not_sound refl).1 bad, same)

-- what a preview then stores: zeros beside the number, and the count 0
pub unsound_preview : (p : Plan) → sound p ≡ false → (link capacity s t number : ℕ) (reply : PairReply) (count : ℕ)
    → (plan : Plan) → Promise p (pamzolit_preview link capacity s t number reply count plan)
    → (reply ≡ pair_reply (Refused not_sound)) × (count ≡ 0)
unsound_preview p bad link capacity s t number reply count plan (e, r, n, same) =
    let refused = no_preview_lem p bad link capacity s t in (
      r ∙ ap (λ (r : PreviewReply). pair_reply r.answer) refused,
      n ∙ ap (λ (r : PreviewReply). r.count) refused,
    )

-- a refused opening leaves zeros, and zeros are not sound
zeros : sound no_plan ≡ false
unfolding sound every network_fits
zeros = refl

pub refused_open : (file : List ℕ) (number place : ℕ) (plan : Plan) → Opened file number place plan → number ≢ 0
    → (plan ≡ no_plan) × ((m : Made) → Promise plan m → (number_back m ≡ not_sound) × (plan_in m ≡ plan))
refused_open file number place plan o d =
    let is : number ≡ (open_of file).number = ap (λ (o : Opening). o.number) o in
    let zero : plan ≡ no_plan = ap (λ (o : Opening). o.plan) o ∙ (opening_refused file (λ z. d (is ∙ z))).1 in
    (zero, unsound_19 plan (ap sound zero ∙ zeros))
