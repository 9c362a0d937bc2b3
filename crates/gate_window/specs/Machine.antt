-- The machine that counts. It is fed the list's calls in order with their plans and arguments, and never the record. It
-- keeps the headrooms of the readings that it accepted since the last reset, the latest first, and refuses by the table
-- of checks, from the calls and how many it keeps.
use Rattle.std.specs.Prelude.{ℕ, List, [], ◌∷◌, length, ℤ}
use Rattle.base.specs.Checks.{accepted}
use Rattle.plan.specs.Calls.{headroom_of}
use Rattle.gate_window.specs.Reading.{reading_number}
use Rattle.gate_window.specs.Run.{Call, reset, reading}

-- the number that it gives a call: 0, accepted, or the refusal's
abbrev pub number_at : List ℤ → Call → ℕ
number_at kept reset = 0
number_at kept (reading p s t demand) = reading_number p (length kept) s t demand

-- an accepted call
abbrev pub keeps : List ℤ → Call → List ℤ
keeps kept reset = []
keeps kept (reading p s t demand) = (headroom_of p s t demand).value ∷ kept

unfoldable pub next : List ℤ → Call → List ℤ
next kept call = accepted (number_at kept call) (keeps kept call) (λ e. kept)

-- after a list of calls, and the numbers that it gives
unfoldable pub kept : List ℤ → List Call → List ℤ
kept hs [] = hs
kept hs (c ∷ cs) = kept (next hs c) cs

unfoldable pub numbers : List ℤ → List Call → List ℕ
numbers hs [] = []
numbers hs (c ∷ cs) = number_at hs c ∷ numbers (next hs c) cs
