-- The measure is what is left of the number.
use Rattle.trials.proofs.files.push_number.Given as goal

abbrev pub decreases-loop-rest : goal.decreases-loop-rest
decreases-loop-rest l = l.rest
