-- What a writer asks for and does.
use Rattle.std.specs.Prelude.{ℕ, ◌+◌, ◌≡◌, ◌≤◌, List, length}
use Rattle.base.specs.code.Puts.{Puts}
use Rattle.network_file.specs.declared.writer.Writer.{Writer}

-- there is room for these bytes from the writer's place on
abbrev pub HasRoom : Writer → List ℕ → Type 0
HasRoom w bytes = w.place + length bytes ≤ length w.out.now

-- these bytes are put at the writer's place, in the same buffer
pub record Wrote (before after : Writer) (bytes : List ℕ) : Type 0 where
  pub same : after.out.ghost_name ≡ before.out.ghost_name
  pub puts : Puts before.out.now before.place bytes after.place after.out.now
