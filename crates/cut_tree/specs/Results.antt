-- What a pair's result is in the numbers of the table of checks.
use Rattle.std.specs.Prelude.{Result, Ok, Err}
use Rattle.network.specs.Refusals.{refusal_number}
use Rattle.network.specs.declared.refusals.Refusal.{Refusal}
use Rattle.cut_tree.specs.Path.{PairAnswer, Refused, Found}
use Rattle.cut_tree.specs.declared.PairFound.{PairFound}

abbrev pub as_answer : Result PairFound Refusal → PairAnswer
as_answer (Ok r) = Found r.weight r.node r.side r.size
as_answer (Err e) = Refused (refusal_number e)
