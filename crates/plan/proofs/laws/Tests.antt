-- What the tests of soundness need of their code: a list of tests, one after the other, and numbers as they are.
use Rattle.std.proofs.Common.{◌≡◌, refl, Bool, true, ◌&&◌, List, [], ◌∷◌}
use Rattle.std.proofs.lemmas.List.{map-id}
use Rattle.base.specs.Basics.{every}
use Rattle.plan.proofs.laws.SoundLaws.{side_test, tree_edge}

pub no_test : every [] ≡ true
unfolding every
no_test = refl

pub first_test : (x : Bool) (xs : List Bool) → every (x ∷ xs) ≡ (x && every xs)
unfolding every
first_test x xs = refl

pub ruleset rules = (no_test, first_test, map-id, side_test, tree_edge)
