-- What is claimed of every list of resets and readings that begins with a reset. One claim, about the whole list.
use Rattle.std.specs.Prelude.{◌≤◌, ◌≡◌, ◌≢◌, ◌⊎◌, List, [], ◌∷◌, length, replicate, ℤ, pos, ◌≤ℤ◌}
use Rattle.plan.specs.Calls.{headroom_of}
use Rattle.gate_window.specs.Shown.{window_width, window_text}
use Rattle.gate_window.specs.Reading.{max_readings, no_readings}
use Rattle.gate_window.specs.Run.{Call, reset, reading, Reply, Event, number_in, calls_of, numbers_of, left}
use Rattle.gate_window.specs.Machine.{number_at, next, kept, numbers}
use Rattle.gate_window.specs.declared.Window.{Window}

-- z is one of the headrooms
abbrev pub OneOf : ℤ → List ℤ → Type 0
OneOf z [] = ⊥
OneOf z (h ∷ hs) = (z ≡ h) ⊎ OneOf z hs

abbrev pub latest : List ℤ → ℤ
latest [] = pos 0
latest (h ∷ hs) = h

-- ---- a record, and the headrooms that the machine keeps beside it
pub record Tells (hs : List ℤ) (w : Window) : Type 0 where
  -- "the count is that of the readings accepted since the last reset", and no more than it takes
  pub count : w.count ≡ length hs
  pub most : w.count ≤ max_readings
  -- "the lowest is the least of their headrooms": it is one of them, and none is less
  pub lowest_is_one : hs ≢ [] → OneOf w.lowest hs
  pub none_less : (z : ℤ) → OneOf z hs → w.lowest ≤ℤ z
  -- "and the last is the latest"
  pub last : w.last ≡ latest hs
  -- "both 0 if there is none"
  pub none : hs ≡ [] → (w.lowest ≡ pos 0) × (w.last ≡ pos 0)

-- ---- what is shown
-- accepted: the headroom that the plan's own call gives
abbrev pub Right : (c : Call) → Window → Reply c → Type 0
Right reset behind r = behind ≡ no_readings
Right (reading p s t demand) behind r =
    let h = headroom_of p s t demand in (h.number ≡ 0) × (behind.last ≡ h.value) × (r.text ≡ window_text h.value)

-- refused: four spaces, and the three numbers as before
abbrev pub Unaltered : Window → (c : Call) → Window → Reply c → Type 0
Unaltered w reset behind r = ⊥
Unaltered w (reading p s t demand) behind r = (behind ≡ w) × (r.text ≡ replicate window_width 32)

-- ---- one call of the list: the headrooms that the machine keeps at it, the record w that it is given, and its reply
pub record AtCall (hs : List ℤ) (w : Window) (c : Call) (behind : Window) (r : Reply c) : Type 0 where
  pub number : number_in c r ≡ number_at hs c
  pub if_accepted : number_in c r ≡ 0 → Right c behind r
  pub if_refused : number_in c r ≢ 0 → Unaltered w c behind r
  pub tells : Tells (next hs c) behind

abbrev pub Replies : List ℤ → Window → List Event → Type 0
Replies hs w [] = Unit {0}
Replies hs w (e ∷ es) =
    AtCall hs w e.call e.behind e.reply × Replies (next hs e.call) e.behind es

-- ---- the claim. w: what the record held before the first reset, which takes no part
pub record Claims (w : Window) (es : List Event) : Type 0 where
  -- the record that is left
  pub record_left : Tells (kept [] (calls_of es)) (left w es)
  -- every acceptance or refusal number is the machine's
  pub numbered : numbers_of es ≡ numbers [] (calls_of es)
  -- the replies and records along the list
  pub replies : Replies [] w es
