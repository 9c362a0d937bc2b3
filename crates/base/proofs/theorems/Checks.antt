-- What holds of the definitions of specs/Checks.antt.
use Rattle.std.specs.Prelude.{ℕ, ◌≡◌, refl, Bool, true, false, List, [], ◌∷◌}
use Rattle.base.specs.Checks.{Given, Row, chain, check, here, later, passed}

-- the number of a table of rows is given, and no other is
pub given : (rs : List Row) → Given rs (chain rs)
given [] = passed
given (r ∷ rs) = go r.when refl (given rs)
  where
    go : (b : Bool) → r.when ≡ b → Given rs (chain rs)
        → Given (record { when = r.when; number = r.number } ∷ rs) (check b r.number (chain rs))
    go true e h = here e
    go false e h = later e h

pub only : {rs : List Row} {e : ℕ} → Given rs e → chain rs ≡ e
only passed = refl
only (here e) = rw e
only (later e h) = rw e (only h)
