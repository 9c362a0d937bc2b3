-- The gate's record that its caller holds: from a first reset on, whatever list of resets and readings its memory was
-- lent to, on any plans, nothing else writing it, the whole claim holds of what it then holds. And what a reading of a
-- held plan shows is exact. Assumes nothing.
use Rattle.std.specs.Prelude.{ℕ, ◌≡◌, refl, List, [], ◌∷◌, pos, ◌-ℤ◌}
use Rattle.std.proofs.Common.{sym, ap, ◌∙◌}
use Rattle.cut_tree.specs.Path.{weight_of}
use Rattle.plan.specs.Calls.{pair_of, headroom_of}
use Rattle.plan.specs.declared.Plan.{Plan}
use Rattle.history.specs.History.{RightPair}
use Rattle.gate_window.specs.Shown.{window_text}
use Rattle.gate_window.specs.Reading.{reading_of}
use Rattle.gate_window.proofs.theorems.Numbers.{reading_accepted, reading_headroom}
use Rattle.gate_window.specs.Run.{Run, left, BeginsWithReset}
use Rattle.gate_window.specs.Claims.{Claims}
use Rattle.gate_window.proofs.theorems.Whole.{window_claims}
use Rattle.gate_window.specs.Reading.{Updated}
use Rattle.gate_window.specs.declared.Window.{Window}
use Rattle.gate_window.specs.declared.WindowReply.{WindowReply}
use Rattle.exports.specs.Made.{Made, pamzolit_reading, Opened, Promise, Held, holding}
use Rattle.exports.proofs.theorems.Held.{held_headroom}
use Rattle.exports.specs.Lent.{Lent, pamzolit_reset, reading_from, InTurn, record_after, events_of}

-- what is stored apart is the whole of what a reading leaves
whole : (p : Plan) (s t demand number : ℕ) (before behind : Window) (reply : WindowReply) (plan : Plan)
    → Promise p (pamzolit_reading s t demand before number behind reply plan)
    → record { window = behind; reply = reply } ≡ reading_of p before s t demand
whole p s t demand number before behind reply plan (e, b, r, same) = λ i. record { window = b i; reply = r i }

-- ---- a list of calls on a record is a run, and leaves what the memory holds
runs : (w : Window) (ls : List Lent) → InTurn w ls → Run w (events_of ls) × (left w (events_of ls) ≡ record_after w ls)
unfolding InTurn record_after left
runs w [] k = (tt, refl)
runs w (pamzolit_reset behind ∷ ls) (k, ks) = let (r, e) = runs behind ls ks in ((k, r), e)
runs w (reading_from held s t demand number behind reply plan ∷ ls) (k, ks) =
    let (r, e) = runs behind ls ks in ((whole held s t demand number w behind reply plan k, r), e)

-- ---- the claim, of whatever the record held before the first reset
pub held_window : (w : Window) (ls : List Lent) → InTurn w ls → BeginsWithReset (events_of ls)
    → Claims w (events_of ls) × (left w (events_of ls) ≡ record_after w ls)
held_window w ls k b = let (r, e) = runs w ls k in (window_claims w (events_of ls) r b, e)

-- ---- a plan that its caller holds since an accepted opening, and any record
module _ (file : List ℕ) (place : ℕ) (plan : Plan) (opened : Opened file 0 place plan) (ms : List Made)
    (held : Held plan ms) where
  -- an accepted reading notes and shows the limit, exact, less the demand
  pub held_reading : (s t demand : ℕ) (before behind : Window) (reply : WindowReply) (q : Plan)
      → Promise (holding plan ms) (pamzolit_reading s t demand before 0 behind reply q)
      → (behind.last ≡ pos (weight_of (pair_of (holding plan ms) s t)) -ℤ pos demand)
      × (reply.text ≡ window_text behind.last)
      × RightPair (holding plan ms).network s t (pair_of (holding plan ms) s t)
  held_reading s t demand before behind reply q (e, b, r, same) =
      let p = holding plan ms in
      let is = reading_accepted p before s t demand (sym e) in
      let last = ap (λ (w : Window). w.last) b ∙ ap (λ (u : Updated). u.window.last) is in
      let text = ap (λ (x : WindowReply). x.text) r ∙ ap (λ (u : Updated). u.reply.text) is in
      let number = reading_headroom p before s t demand (sym e) in
      let (value, _, right) =
      held_headroom file place plan opened ms held s t demand (headroom_of p s t demand) p (sym number, refl, refl) in
      (last ∙ value, text ∙ ap window_text (sym last), right)
