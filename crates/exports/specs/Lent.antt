-- Calls that a caller made on a gate's record in its own memory, each with what came back, and what the functions
-- promise of it. These promises are the contracts in src/window.rt: proofs/Contracts.antt shows it.
use Rattle.std.specs.Prelude.{ℕ, ◌≡◌, List, [], ◌∷◌, map}
use Rattle.plan.specs.declared.Plan.{Plan}
use Rattle.gate_window.specs.Reading.{no_readings}
use Rattle.gate_window.specs.Run.{reset, reading, Event}
use Rattle.gate_window.specs.declared.Window.{Window}
use Rattle.gate_window.specs.declared.WindowReply.{WindowReply}
use Rattle.exports.specs.Made.{pamzolit_reading, Promise}

-- the function with its arguments, `held` what the plan's memory holds; then the number that it returned, and what the
-- caller found behind the call in the memory that it lent: `behind` the record, the reply, and the plan
pub data Lent : Type 0 where
  pamzolit_reset : (behind : Window) → Lent
  reading_from : (held : Plan) (s t demand : ℕ) (number : ℕ) (behind : Window)
      (reply : WindowReply) (plan : Plan) → Lent

-- what is promised, the record's memory holding w before the call
abbrev pub LentPromise : Window → Lent → Type 0
LentPromise w (pamzolit_reset behind) = behind ≡ no_readings
LentPromise w (reading_from held s t demand number behind reply plan) =
    Promise held (pamzolit_reading s t demand w number behind reply plan)

abbrev pub record_in : Lent → Window
record_in (pamzolit_reset behind) = behind
record_in (reading_from held s t demand number behind reply plan) = behind

-- ---- a list of calls on the same record, nothing else writing it: each finds what the one before it left
unfoldable pub InTurn : Window → List Lent → Type 0
InTurn w [] = Unit {0}
InTurn w (l ∷ ls) = LentPromise w l × InTurn (record_in l) ls

-- what the record holds at last
unfoldable pub record_after : Window → List Lent → Window
record_after w [] = w
record_after w (l ∷ ls) = record_after (record_in l) ls

-- the same calls, as the claim over lists speaks of them
abbrev pub event_of : Lent → Event
event_of (pamzolit_reset behind) = record { call = reset; behind = behind; reply = tt }
event_of (reading_from held s t demand number behind reply plan) =
    record { call = reading held s t demand; behind = behind; reply = reply }

abbrev pub events_of : List Lent → List Event
events_of = map event_of
