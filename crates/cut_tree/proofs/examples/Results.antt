-- Worked examples: a pair's result in the numbers of the table of checks.
use Rattle.std.specs.Prelude.{◌≡◌, refl, Ok, Err}
use Rattle.network.specs.declared.refusals.Refusal.TheVariants.{NoSuchNode, SameNode}
use Rattle.cut_tree.specs.Path.{Refused, Found}
use Rattle.cut_tree.specs.Results.{as_answer}

-- the pair (3, 1) of resort A
pub found : as_answer (Ok (record { weight = 6; node = 2; side = 12; size = 2 })) ≡ Found 6 2 12 2
found = refl

pub refused : (as_answer (Err NoSuchNode) ≡ Refused 14) × (as_answer (Err SameNode) ≡ Refused 15)
refused = (refl, refl)
