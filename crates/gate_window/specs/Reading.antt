-- A gate's record and its readings (docs/SCOPE.md, 6), over the plan's headroom: its number and its value, and the rows
-- of its checks.
use Rattle.std.specs.Prelude.{ℕ, zero, suc, not, List, [], ◌∷◌, replicate, ltb, ℤ, pos}
use Rattle.std.specs.Int.Signed.{lt_z}
use Rattle.base.specs.Basics.{pick}
use Rattle.base.specs.Checks.{Row, row, chain, accepted}
use Rattle.network.specs.Refusals.{too_many_readings}
use Rattle.plan.specs.Calls.{headroom_rows, headroom_of}
use Rattle.plan.specs.declared.Plan.{Plan}
use Rattle.gate_window.specs.Shown.{window_width, window_text}
use Rattle.gate_window.specs.declared.Window.{Window}
use Rattle.gate_window.specs.declared.WindowReply.{WindowReply}

-- what a reading leaves of the record that it was given, and its reply
pub record Updated : Type 0 where
  pub window : Window
  pub reply : WindowReply

-- the readings that a record takes between two resets
abbrev pub max_readings : ℕ
max_readings = 1000000

-- "A reset makes all three 0"
abbrev pub no_readings : Window
no_readings = record { last = pos 0; lowest = pos 0; count = 0 }

-- ---- the checks: "after those of the headroom, 20 if the record counts 1,000,000 readings or more"
abbrev pub reading_rows : Plan → (count s t demand : ℕ) → List Row
reading_rows p count s t demand =
    headroom_rows p s t demand (row (not (ltb count max_readings)) too_many_readings ∷ [])

unfoldable pub reading_number : Plan → (count s t demand : ℕ) → ℕ
reading_number p count s t demand = chain (reading_rows p count s t demand)

-- ---- an accepted reading
-- "the first reading sets the lowest": what stood there takes no part. A later one is compared with it.
abbrev pub lowest_by : (count : ℕ) (lowest headroom : ℤ) → ℤ
lowest_by zero lowest headroom = headroom
lowest_by (suc n) lowest headroom = pick (lt_z headroom lowest) headroom lowest

abbrev pub noted : Window → (headroom : ℤ) → Window
noted w headroom =
    record { last = headroom; lowest = lowest_by w.count w.lowest headroom; count = suc w.count }

abbrev pub read : Window → (headroom : ℤ) → Updated
read w headroom = record { window = noted w headroom; reply = record { number = 0; text = window_text headroom } }

-- "A refused reading leaves the three numbers and gives four spaces."
abbrev pub not_read : Window → (number : ℕ) → Updated
not_read w number = record { window = w; reply = record { number = number; text = replicate window_width 32 } }

-- ---- a reading of the record w
unfoldable pub reading_of : Plan → Window → (s t demand : ℕ) → Updated
reading_of p w s t demand =
    accepted (reading_number p w.count s t demand) (read w (headroom_of p s t demand).value) (not_read w)
