-- Values put into a lent list at a place: what a function that writes promises.
use Rattle.std.specs.Prelude.{ℕ, ◌+◌, ◌≡◌, List, length}
use Rattle.std.proofs.lemmas.List.Edits.{sets}

-- from `before` to `after` the values were put at a place, and nothing else changed; `next` is the place behind them
pub record Puts {A : Type 0} (before : List A) (place : ℕ) (values : List A) (next : ℕ) (after : List A) : Type 0 where
  pub next_is : next ≡ place + length values
  pub after_is : after ≡ sets before place values
