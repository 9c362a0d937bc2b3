-- What holds of the definitions of specs/Held.antt.
use Rattle.std.specs.Prelude.{ℕ, zero, suc, ◌≡◌, refl, List, [], ◌∷◌, ◌++◌, length, take, pos, ◌-ℤ◌}
use Rattle.std.proofs.Common.{sym, ap, subst, ◌∙◌}
use Rattle.base.specs.Checks.{accepted}
use Rattle.text.specs.Text.{text_of}
use Rattle.cut_tree.specs.Path.{answer, number_of, weight_of}
use Rattle.cut_tree.specs.Answer.{BothEnds}
use Rattle.cut_tree.specs.Path.{PairAnswer}
use Rattle.cut_tree.specs.Path.{Refused, Found}
use Rattle.plan.proofs.theorems.BothEnds.{pair_both_ends}
use Rattle.plan.proofs.laws.AnswersLaws.{headroom_found}
use Rattle.plan.specs.Calls.{open_of, change_of, pair_number, pair_of, no_preview, preview_by, preview_of, write_of, written_to}
use Rattle.history.specs.History.{Claims, Demand3, Opens, RightPair}
use Rattle.history.specs.Machine.{begin, state}
use Rattle.plan.proofs.theorems.Numbers.{headroom_numbered, write_numbered}
use Rattle.history.specs.Run.{Event, Run, calls_of, left, plan_after}
use Rattle.history.proofs.theorems.Whole.{demand_3}
use Rattle.plan.specs.Calls.{Changed}
use Rattle.plan.specs.declared.HeadroomReply.{HeadroomReply}
use Rattle.plan.specs.Calls.{Opening}
use Rattle.plan.specs.declared.Plan.{Plan}
use Rattle.plan.specs.Calls.{PreviewReply}
use Rattle.plan.specs.Calls.{Written}
use Rattle.exports.specs.Made.{Made, pamzolit_change, pamzolit_undo, pamzolit_pair, pamzolit_preview}
use Rattle.exports.specs.Made.{pamzolit_flow, pamzolit_headroom, pamzolit_write, pamzolit_reading, Opened}
use Rattle.exports.specs.Made.{Promise, plan_in, Held, holding, events_in, events}
use Rattle.exports.specs.PairReply.{pair_reply, answer_in}
use Rattle.exports.specs.declared.held.PairReply.{PairReply}
use Rattle.exports.specs.Held.{run_on}

-- a pair's numbers tell its answer
pub answer_in_lem : (p : Plan) (s t : ℕ) → answer_in (pair_reply (pair_of p s t)) ≡ pair_of p s t
unfolding pair_of answer
answer_in_lem p s t = go (pair_number p s t)
  where
    go : (e : ℕ) → let a = accepted e (answer p.tree p.network.nodes s t) Refused in answer_in (pair_reply a) ≡ a
    go zero = refl
    go (suc e) = refl

-- a preview has a pair's answer and a change's count, 0 beside a refusal; so its numbers tell its answer
by_pair : (p : Plan) (s t count : ℕ) → let a = pair_of p s t in
    preview_by a count ≡ record { answer = a; count = accepted (pair_reply a).number count (λ e. 0) }
unfolding pair_of answer
by_pair p s t count = go (pair_number p s t)
  where
    go : (e : ℕ) → let a = accepted e (answer p.tree p.network.nodes s t) Refused in
        preview_by a count ≡ record { answer = a; count = accepted (pair_reply a).number count (λ e. 0) }
    go zero = refl
    go (suc e) = refl

pub preview_in : (p : Plan) (k c s t : ℕ) → let a = (preview_of p k c s t).answer in answer_in (pair_reply a) ≡ a
unfolding preview_of
preview_in p k c s t = go (change_of p k c).number (change_of p k c).plan (change_of p k c).count
  where
    go : (e : ℕ) (q : Plan) (count : ℕ) → let a = (accepted e (preview_by (pair_of q s t) count) no_preview).answer in
        answer_in (pair_reply a) ≡ a
    go zero q count = rw (by_pair q s t count) (answer_in_lem q s t)
    go (suc e) q count = refl

number_in : (a : PairAnswer) → (pair_reply a).number ≡ number_of a
number_in (Refused e) = refl
number_in (Found weight node side size) = refl

-- ---- two pair calls for (s, t) and (t, s), whatever plan the memory holds: the same number is returned, and they are
-- refused alike, or have the same weight and node, complementary sides, and sizes that add up to n
pub held_both_ends : (p : Plan) (s t number other : ℕ) (r q : PairReply) (plan₁ plan₂ : Plan)
    → Promise p (pamzolit_pair s t number r plan₁) → Promise p (pamzolit_pair t s other q plan₂)
    → (other ≡ number) × BothEnds p.network.nodes (answer_in r) (answer_in q)
held_both_ends p s t number other r q plan₁ plan₂ (e, er, _) (f, fq, _) =
    let both = pair_both_ends p s t in (
      f ∙ number_in (pair_of p t s) ∙ both.number ∙ sym (e ∙ number_in (pair_of p s t)),
      rw (er, fq, answer_in_lem p s t, answer_in_lem p t s) both,
    )

-- ---- a preview stores what a change and then a pair call store on a copy of the memory, if the change is accepted;
-- and its count is the change's, or 0 if the pair is refused
pub held_preview : (p : Plan) (link capacity s t : ℕ)
    → (count : ℕ) (copy : Plan) → Promise p (pamzolit_change link capacity 0 count copy)
    → (number : ℕ) (reply : PairReply) (copy₂ : Plan) → Promise copy (pamzolit_pair s t number reply copy₂)
    → (other : ℕ) (r : PairReply) (n : ℕ) (plan : Plan) → Promise p (pamzolit_preview link capacity s t other r n plan)
    → (other ≡ number) × (r ≡ reply) × (n ≡ accepted number count (λ e. 0))
unfolding preview_of
held_preview p link capacity s t count copy changed number reply copy₂ (e, er, _) other r n plan (f, fr, fn, _) =
    let by : Changed → PreviewReply =
    λ x. accepted x.number (preview_by (pair_of x.plan s t) x.count) no_preview in
    let is = sym (ap by changed) ∙ by_pair copy s t count in (
      f ∙ ap (λ (x : PreviewReply). (pair_reply x.answer).number) is ∙ sym e,
      fr ∙ ap (λ (x : PreviewReply). pair_reply x.answer) is ∙ sym er,
      fn ∙ ap (λ (x : PreviewReply). x.count) is ∙ ap (λ (e : ℕ). accepted e count (λ _. 0)) (sym e),
    )

-- ---- each kind of call, by what its function promises: it is that call of a run, which leaves what the memory then
-- holds. Headroom, write and reading are no calls of a run: they leave the plan.
pub runs : (p : Plan) (m : Made) → Promise p m → Run p (events_in m) × (left p (events_in m) ≡ plan_in m)
unfolding left
runs p (pamzolit_change link capacity number count plan) e = ((e, tt), refl)
runs p (pamzolit_undo number count plan) e = ((e, tt), refl)
runs p (pamzolit_pair s t number reply plan) (e, r, same) = ((ap answer_in r ∙ answer_in_lem p s t, tt), sym same)
runs p (pamzolit_preview link capacity s t number reply count plan) (e, r, n, same) = (
  (rw (r, n, preview_in p link capacity s t), tt),
  sym same,
)
runs p (pamzolit_flow s t before number behind plan) (f, same) = (((refl, f), tt), sym same)
runs p (pamzolit_headroom s t demand number reply plan) (e, r, same) = (tt, sym same)
runs p (pamzolit_write before number used behind plan) (e, w, same) = (tt, sym same)
runs p (pamzolit_reading s t demand before number behind reply plan) (e, w, r, same) = (tt, sym same)

left_on : (es fs : List Event) (p : Plan) → left p (es ++ fs) ≡ left (left p es) fs
unfolding left
left_on [] fs p = refl
left_on (e ∷ es) fs p = left_on es fs (plan_after p e.call e.reply)

pub held_run : (ms : List Made) (p : Plan) → Held p ms → Run p (events ms) × (left p (events ms) ≡ holding p ms)
unfolding Held holding events left
held_run [] p h = (tt, refl)
held_run (m ∷ ms) p (h, hs) =
    let (r, at) = runs p m h in
    let (rs, ats) = held_run ms (plan_in m) hs in (
      run_on (events_in m) (events ms) p r (subst (λ (x : Plan). Run x (events ms)) (sym at) rs),
      left_on (events_in m) (events ms) p ∙ ap (λ (x : Plan). left x (events ms)) at ∙ ats,
    )

-- ---- demand 3
module _ (file : List ℕ) (place : ℕ) (plan : Plan) (opened : Opened file 0 place plan) (ms : List Made)
    (held : Held plan ms) where
  -- the machine after the change, undo, pair, preview and flow calls among them
  pub held_demand_3 : Claims plan (holding plan ms)
      (state plan.network (begin plan.network) (calls_of (events ms))) (events ms)
  held_demand_3 =
      let (r, at) = held_run ms plan held in
      let is : (open_of file).plan ≡ plan = sym (ap (λ (o : Opening). o.plan) opened) in
      let run = subst (λ (p : Plan). Run p (events ms)) (sym is) r in
      let d = demand_3 file (sym (ap (λ (o : Opening). o.number) opened)) (events ms) run in
      let x = state plan.network (begin plan.network) (calls_of (events ms)) in
      subst (λ (q : Plan). Claims plan q x (events ms)) at (subst (λ (p : Plan). Demand3 p (events ms)) is d)

  -- a headroom that is then accepted is the limit, exact, less the demand, and its text
  pub held_headroom : (s t demand : ℕ) (reply : HeadroomReply) (q : Plan)
      → Promise (holding plan ms) (pamzolit_headroom s t demand 0 reply q)
      → (reply.value ≡ pos (weight_of (pair_of (holding plan ms) s t)) -ℤ pos demand)
      × (reply.text ≡ text_of reply.value)
      × RightPair (holding plan ms).network s t (pair_of (holding plan ms) s t)
  unfolding answer
  held_headroom s t demand reply q (e, r, same) =
      let p = holding plan ms in
      let (_, ((sl, tl), (d, most))) = (headroom_numbered p s t demand).accepted.0 (sym e) in
      let right = held_demand_3.pairs s t sl tl d in
      let found = headroom_found p s t _ _ _ _ right.by_rule demand most in
      let value = ap (λ (h : HeadroomReply). h.value) (r ∙ found) in (
        value ∙ ap (λ (w : ℕ). pos w -ℤ pos demand) (sym (ap weight_of right.by_rule)),
        ap (λ (h : HeadroomReply). h.text) (r ∙ found) ∙ ap text_of (sym value),
        right,
      )

  -- a file that is then written opens as the plan, but for its stack
  pub held_write : (before : List ℕ) (used : ℕ) (behind : List ℕ) (q : Plan)
      → Promise (holding plan ms) (pamzolit_write before 0 used behind q) → Opens (take used behind) (holding plan ms)
  held_write before used behind q (e, w, same) =
      let p = holding plan ms in
      let long = ((write_numbered p before).accepted.0 (sym (ap (λ (r : Written). r.number) e))).1 in
      let o = (held_demand_3.reopened before long).1 in
      let is : used ≡ (write_of p (length before)).length = ap (λ (r : Written). r.length) e in
      let whole = subst (λ (n : ℕ). Opens (take n (written_to p before)) p) (sym is) o in
      subst (λ (b : List ℕ). Opens (take used b) p) (sym w) whole
