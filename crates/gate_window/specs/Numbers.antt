-- Demand 1, for a reading: each number of its checks is given under its condition and no other, of every record; a
-- refusal leaves the record and shows four spaces. Number 20 is given by a reading alone.
use Rattle.std.specs.Prelude.{ℕ, ◌≤◌, ◌<◌}
use Rattle.base.specs.Conditions.{Meaning, end, means}
use Rattle.base.proofs.laws.ChecksLaws.{below, not_below}
use Rattle.network.specs.Refusals.{too_many_readings}
use Rattle.plan.specs.Numbers.{headroom_table}
use Rattle.plan.specs.declared.Plan.{Plan}
use Rattle.gate_window.specs.Reading.{max_readings, reading_rows}

-- the headroom's rows, then the record's own
abbrev pub reading_table : (p : Plan) (count s t demand : ℕ) → Meaning (reading_rows p count s t demand)
reading_table p count s t demand =
    headroom_table p s t demand
    (means too_many_readings (max_readings ≤ count) (count < max_readings) (not_below count max_readings)
    (below count max_readings) end)
