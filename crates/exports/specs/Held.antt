-- Demand 3 of a plan that the caller holds: from an accepted opening, whatever list of calls the same memory was lent
-- to, nothing else writing it, the whole claim holds of what the memory then holds. Assumes nothing.
use Rattle.std.specs.Prelude.{List, [], ◌∷◌, ◌++◌}
use Rattle.history.specs.Run.{Event, Run, left, plan_after}
use Rattle.plan.specs.declared.Plan.{Plan}

-- ---- so a list of calls is a run, and leaves what the memory holds
pub run_on : (es fs : List Event) (p : Plan) → Run p es → Run (left p es) fs → Run p (es ++ fs)
unfolding left
run_on [] fs p r q = q
run_on (e ∷ es) fs p (h, r) q = (h, run_on es fs (plan_after p e.call e.reply) r q)
