-- The rows as the code is told them.
use Rattle.std.specs.Prelude.{ℕ, [], ◌∷◌, ltb}
use Rattle.base.specs.Checks.{row, chain}
use Rattle.network.specs.Refusals.{refusal_number}
use Rattle.network_file.specs.Reading.{nodes_row, end_row, other_end_row}
use Rattle.network_file.specs.declared.Row.{Row}
use Rattle.network_file.specs.declared.Row.TheVariants.{Nodes, AtMost, End, OtherEnd}

-- the refusal number of a value, 0 for none
abbrev pub row_of : Row → ℕ → ℕ
row_of Nodes v = nodes_row v
row_of (AtMost most refusal) v = chain (row (ltb most v) (refusal_number refusal) ∷ [])
row_of (End n) v = end_row n v
row_of (OtherEnd n a) v = other_end_row n a v
