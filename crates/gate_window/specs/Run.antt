-- A run: a list of resets and readings with what came of them, on any plans, "nothing else writing the record": each
-- call is given the record that the call before it left.
use Rattle.std.specs.Prelude.{ℕ, ◌≡◌, List, [], ◌∷◌, map}
use Rattle.plan.specs.declared.Plan.{Plan}
use Rattle.gate_window.specs.Reading.{no_readings, reading_of}
use Rattle.gate_window.specs.declared.Window.{Window}
use Rattle.gate_window.specs.declared.WindowReply.{WindowReply}

pub data Call : Type 0 where
  reset : Call
  reading : (plan : Plan) (s t demand : ℕ) → Call

abbrev pub Reply : Call → Type 0
Reply reset = Unit {0}
Reply (reading p s t demand) = WindowReply

-- a call, the record behind it, and its reply
pub record Event : Type 0 where
  pub call : Call
  pub behind : Window
  pub reply : Reply call

-- a reply's number: 0 for an accepted call; a reset is always accepted
abbrev pub number_in : (c : Call) → Reply c → ℕ
number_in reset r = 0
number_in (reading p s t demand) r = r.number

abbrev pub calls_of : List Event → List Call
calls_of = map (λ e. e.call)

abbrev pub numbers_of : List Event → List ℕ
numbers_of = map (λ e. number_in e.call e.reply)

-- what the contract of the function that is called promises of the record w, and nothing else
abbrev pub Promised : Window → (c : Call) → Window → Reply c → Type 0
Promised w reset behind r = behind ≡ no_readings
Promised w (reading p s t demand) behind r = record { window = behind; reply = r } ≡ reading_of p w s t demand

abbrev pub Run : Window → List Event → Type 0
Run w [] = Unit {0}
Run w (e ∷ es) = Promised w e.call e.behind e.reply × Run e.behind es

-- the record that the list leaves
unfoldable pub left : Window → List Event → Window
left w [] = w
left w (e ∷ es) = left e.behind es

-- "any list of resets and readings that begins with a reset"
abbrev pub BeginsWithReset : List Event → Type 0
BeginsWithReset [] = ⊥
BeginsWithReset (e ∷ es) = e.call ≡ reset
