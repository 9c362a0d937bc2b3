-- What the writer of a listing asks for and does.
use Rattle.std.specs.Prelude.{ℕ, ◌+◌, ◌≤◌, ◌≡◌, List, length}
use Rattle.base.specs.code.Puts.{Puts}
use Rattle.listing.specs.declared.line.Lines.{Lines}

-- there is room for so much
abbrev pub Room : Lines → List ℕ → Type 0
Room lines values = lines.place + length values ≤ length lines.out.now

-- so much is put behind what stands there, in the same buffer
pub record Adds (before : Lines) (values : List ℕ) (after : Lines) : Type 0 where
  pub same : after.out.ghost_name ≡ before.out.ghost_name
  pub puts : Puts before.out.now before.place values after.place after.out.now
