-- Calls that a caller made on a plan in its own memory, each with what came back, and what the functions promise of it.
-- These promises are the contracts in src/held.rt and of the reading in src/window.rt: proofs/Contracts.antt shows it
-- of each of them.
use Rattle.std.specs.Prelude.{ℕ, ◌≡◌, List, [], ◌∷◌, ◌++◌, length, ℤ}
use Rattle.plan.specs.Calls.{open_of, change_of, undo_of, pair_of, preview_of, Flowed, headroom_of, write_of}
use Rattle.plan.specs.Calls.{written_to}
use Rattle.history.specs.Machine.{pair, flow, preview, change, undo, ask}
use Rattle.history.specs.Run.{Event}
use Rattle.plan.specs.declared.HeadroomReply.{HeadroomReply}
use Rattle.plan.specs.declared.Plan.{Plan}
use Rattle.gate_window.specs.Reading.{reading_of}
use Rattle.gate_window.specs.declared.Window.{Window}
use Rattle.gate_window.specs.declared.WindowReply.{WindowReply}
use Rattle.exports.specs.PairReply.{pair_reply, answer_in}
use Rattle.exports.specs.declared.held.PairReply.{PairReply}

-- the function with its arguments; then the number that it returned, and what the caller found behind the call in the
-- memory that it lent: count, reply, buffer, and `plan`, what the plan's own memory holds. A buffer and a gate's record
-- are `before` the call, and `behind` it.
pub data Made : Type 0 where
  pamzolit_change : (link capacity : ℕ) (number count : ℕ) (plan : Plan) → Made
  pamzolit_undo : (number count : ℕ) (plan : Plan) → Made
  pamzolit_pair : (s t : ℕ) (number : ℕ) (reply : PairReply) (plan : Plan) → Made
  pamzolit_preview : (link capacity s t : ℕ) (number : ℕ) (reply : PairReply) (count : ℕ) (plan : Plan) → Made
  pamzolit_flow : (s t : ℕ) (before : List ℤ) (number : ℕ) (behind : List ℤ) (plan : Plan) → Made
  pamzolit_headroom : (s t demand : ℕ) (number : ℕ) (reply : HeadroomReply) (plan : Plan) → Made
  pamzolit_write : (before : List ℕ) (number used : ℕ) (behind : List ℕ) (plan : Plan) → Made
  pamzolit_reading : (s t demand : ℕ) (before : Window) (number : ℕ) (behind : Window) (reply : WindowReply)
      → (plan : Plan) → Made

-- ---- what is promised
-- of `pamzolit_open`
abbrev pub Opened : (file : List ℕ) (number place : ℕ) (plan : Plan) → Type 0
Opened file number place plan = record { number = number; place = place; plan = plan } ≡ open_of file

-- of the others, the plan's memory holding p before the call
abbrev pub Promise : Plan → Made → Type 0
Promise p (pamzolit_change link capacity number count plan) =
    record { number = number; count = count; plan = plan } ≡ change_of p link capacity
Promise p (pamzolit_undo number count plan) = record { number = number; count = count; plan = plan } ≡ undo_of p
Promise p (pamzolit_pair s t number reply plan) =
    (number ≡ (pair_reply (pair_of p s t)).number) × (reply ≡ pair_reply (pair_of p s t)) × (plan ≡ p)
Promise p (pamzolit_preview link capacity s t number reply count plan) =
    let shown = preview_of p link capacity s t in
    (number ≡ (pair_reply shown.answer).number)
    × (reply ≡ pair_reply shown.answer)
    × (count ≡ shown.count)
    × (plan ≡ p)
Promise p (pamzolit_flow s t before number behind plan) = Flowed p s t before number behind × (plan ≡ p)
Promise p (pamzolit_headroom s t demand number reply plan) =
    (number ≡ (headroom_of p s t demand).number) × (reply ≡ headroom_of p s t demand) × (plan ≡ p)
Promise p (pamzolit_write before number used behind plan) =
    (record { number = number; length = used } ≡ write_of p (length before))
    × (behind ≡ written_to p before)
    × (plan ≡ p)
Promise p (pamzolit_reading s t demand before number behind reply plan) =
    let read = reading_of p before s t demand in
    (number ≡ read.reply.number) × (behind ≡ read.window) × (reply ≡ read.reply) × (plan ≡ p)

-- ---- what came back
abbrev pub number_back : Made → ℕ
number_back (pamzolit_change link capacity number count plan) = number
number_back (pamzolit_undo number count plan) = number
number_back (pamzolit_pair s t number reply plan) = number
number_back (pamzolit_preview link capacity s t number reply count plan) = number
number_back (pamzolit_flow s t before number behind plan) = number
number_back (pamzolit_headroom s t demand number reply plan) = number
number_back (pamzolit_write before number used behind plan) = number
number_back (pamzolit_reading s t demand before number behind reply plan) = number

abbrev pub plan_in : Made → Plan
plan_in (pamzolit_change link capacity number count plan) = plan
plan_in (pamzolit_undo number count plan) = plan
plan_in (pamzolit_pair s t number reply plan) = plan
plan_in (pamzolit_preview link capacity s t number reply count plan) = plan
plan_in (pamzolit_flow s t before number behind plan) = plan
plan_in (pamzolit_headroom s t demand number reply plan) = plan
plan_in (pamzolit_write before number used behind plan) = plan
plan_in (pamzolit_reading s t demand before number behind reply plan) = plan

-- ---- a list of calls on the same memory, nothing else writing it: each finds what the one before it left
unfoldable pub Held : Plan → List Made → Type 0
Held p [] = Unit {0}
Held p (m ∷ ms) = Promise p m × Held (plan_in m) ms

-- what the memory holds at last
unfoldable pub holding : Plan → List Made → Plan
holding p [] = p
holding p (m ∷ ms) = holding (plan_in m) ms

-- ---- the change, undo, pair, preview and flow calls among them, as demand 3 speaks of them
abbrev pub events_in : Made → List Event
events_in (pamzolit_change link capacity number count plan) =
    record { call = change link capacity; reply = record { number = number; count = count; plan = plan } } ∷ []
events_in (pamzolit_undo number count plan) =
    record { call = undo; reply = record { number = number; count = count; plan = plan } } ∷ []
events_in (pamzolit_pair s t number reply plan) = record { call = ask (pair s t); reply = answer_in reply } ∷ []
events_in (pamzolit_preview link capacity s t number reply count plan) =
    record {
      call = ask (preview link capacity s t);
      reply = record { answer = answer_in reply; count = count };
    } ∷ []
events_in (pamzolit_flow s t before number behind plan) =
    record {
      call = ask (flow s t (length before));
      reply = record { number = number; before = before; behind = behind };
    } ∷ []
events_in (pamzolit_headroom s t demand number reply plan) = []
events_in (pamzolit_write before number used behind plan) = []
events_in (pamzolit_reading s t demand before number behind reply plan) = []

unfoldable pub events : List Made → List Event
events [] = []
events (m ∷ ms) = events_in m ++ events ms
