-- A short evening at a gate of resort A, from headrooms that the plan's own examples work out: 1.1 megabits booked
-- between nodes 3 and 1 leave -0.5; between 0 and 1 the highest demand leaves -99999999.2, and one above is refused.
use Rattle.std.specs.Prelude.{ℕ, ◌≡◌, refl, List, [], ◌∷◌, ℤ, pos, negsuc}
use Rattle.std.proofs.Common.{sym, arith}
use Rattle.text.specs.Text.{digits}
use Rattle.plan.proofs.examples.ResortA.{plan_a}
use Rattle.plan.proofs.examples.Replies.{short, highest}
use Rattle.gate_window.specs.Shown.{window_text}
use Rattle.gate_window.specs.Reading.{reading_of}
use Rattle.gate_window.specs.Run.{reset, reading, Event, calls_of, Run}
use Rattle.gate_window.specs.Machine.{next, kept, numbers}
use Rattle.gate_window.proofs.laws.ReadingLaws.{number_by, not_read_lem, full, is_read}
use Rattle.gate_window.specs.declared.Window.{Window}
use Rattle.gate_window.specs.declared.WindowReply.{WindowReply}

-- "-0.5", "LOW ", and the window of a refusal
abbrev pub half : WindowReply
half = record { number = 0; text = 45 ∷ 48 ∷ 46 ∷ 53 ∷ [] }

abbrev pub far : WindowReply
far = record { number = 0; text = 76 ∷ 79 ∷ 87 ∷ 32 ∷ [] }

abbrev pub refused : ℕ → WindowReply
refused n = record { number = n; text = 32 ∷ 32 ∷ 32 ∷ 32 ∷ [] }

abbrev pub three : ℤ → ℤ → ℕ → Window
three last lowest count = record { last = last; lowest = lowest; count = count }

-- ---- one reading, of records that no reset made
-- the first sets the lowest, whatever stands there
pub first_sets : (reading_of plan_a (three (pos 7) (negsuc 999) 0) 3 1 11
    ≡ record { window = three (negsuc 4) (negsuc 4) 1; reply = half })
    × (reading_of plan_a (three (pos 7) (pos 1000) 0) 3 1 11
    ≡ record { window = three (negsuc 4) (negsuc 4) 1; reply = half })
unfolding digits window_text
first_sets = (
  sym (is_read plan_a 3 1 11 _ (sym short) (three (pos 7) (negsuc 999) 0) refl (omega arith)),
  sym (is_read plan_a 3 1 11 _ (sym short) (three (pos 7) (pos 1000) 0) refl (omega arith)),
)

-- a later one is compared with it
pub later_compare : (reading_of plan_a (three (pos 7) (negsuc 999) 1) 3 1 11
    ≡ record { window = three (negsuc 4) (negsuc 999) 2; reply = half })
    × (reading_of plan_a (three (pos 7) (pos 1000) 1) 3 1 11
    ≡ record { window = three (negsuc 4) (negsuc 4) 2; reply = half })
unfolding digits window_text
later_compare = (
  sym (is_read plan_a 3 1 11 _ (sym short) (three (pos 7) (negsuc 999) 1) refl (omega arith)),
  sym (is_read plan_a 3 1 11 _ (sym short) (three (pos 7) (pos 1000) 1) refl (omega arith)),
)

-- the last reading that a record takes, and 20; 17 comes before 20
pub twenty : (reading_of plan_a (three (pos 0) (pos 0) 999999) 3 1 11
    ≡ record { window = three (negsuc 4) (negsuc 4) 1000000; reply = half })
    × (reading_of plan_a (three (pos 0) (pos 0) 1000000) 3 1 11
    ≡ record { window = three (pos 0) (pos 0) 1000000; reply = refused 20 })
    × (reading_of plan_a (three (pos 0) (pos 0) 1000000) 0 1 1000000001
    ≡ record { window = three (pos 0) (pos 0) 1000000; reply = refused 17 })
unfolding digits window_text
twenty = (
  sym (is_read plan_a 3 1 11 _ (sym short) (three (pos 0) (pos 0) 999999) refl (omega arith)),
  sym (full plan_a 3 1 11 _ (sym short) (three (pos 0) (pos 0) 1000000) refl (omega arith)),
  sym (not_read_lem plan_a 0 1 1000000001 _ (sym highest.1) (three (pos 0) (pos 0) 1000000) (omega arith)),
)

-- ---- an evening: a reset, three readings of which one is refused, a reset, a reading
abbrev pub evening : List Event
evening =
    record { call = reset; behind = three (pos 0) (pos 0) 0; reply = tt }
    ∷ record { call = reading plan_a 3 1 11; behind = three (negsuc 4) (negsuc 4) 1; reply = half }
    ∷ record { call = reading plan_a 0 1 1000000001; behind = three (negsuc 4) (negsuc 4) 1; reply = refused 17 }
    ∷ record {
      call = reading plan_a 0 1 1000000000;
      behind = three (negsuc 999999991) (negsuc 999999991) 2;
      reply = far;
    }
    ∷ record { call = reset; behind = three (pos 0) (pos 0) 0; reply = tt }
    ∷ record { call = reading plan_a 3 1 11; behind = three (negsuc 4) (negsuc 4) 1; reply = half }
    ∷ []

-- it is a run from any record
pub evening_runs : (w : Window) → Run w evening
unfolding digits window_text
evening_runs w = (
  refl,
  (
    is_read plan_a 3 1 11 _ (sym short) (three (pos 0) (pos 0) 0) refl (omega arith),
    (
      not_read_lem plan_a 0 1 1000000001 _ (sym highest.1) (three (negsuc 4) (negsuc 4) 1) (omega arith),
      (
        is_read plan_a 0 1 1000000000 _ (sym highest.0) (three (negsuc 4) (negsuc 4) 1) refl (omega arith),
        (refl, (is_read plan_a 3 1 11 _ (sym short) (three (pos 0) (pos 0) 0) refl (omega arith), tt)),
      ),
    ),
  ),
)

-- what the machine keeps of the first four calls, and of all six; and its numbers
pub machine : (kept [] (reset ∷ reading plan_a 3 1 11 ∷ reading plan_a 0 1 1000000001 ∷ reading plan_a 0 1 1000000000 ∷ [])
    ≡ negsuc 999999991 ∷ negsuc 4 ∷ [])
    × (kept [] (calls_of evening) ≡ negsuc 4 ∷ []) × (numbers [] (calls_of evening) ≡ 0 ∷ 0 ∷ 17 ∷ 0 ∷ 0 ∷ 0 ∷ [])
unfolding next kept numbers
machine = rw (
  number_by plan_a 3 1 11 _ (sym short) 0,
  number_by plan_a 0 1 1000000001 _ (sym highest.1) 1,
  number_by plan_a 0 1 1000000000 _ (sym highest.0) 1,
  short,
  highest.0,
) (refl, refl, refl)
