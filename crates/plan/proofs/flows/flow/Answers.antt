-- `plan::flows::flow` meets its contract: two nodes that can't be asked for are refused as a pair is.
use Rattle.std.proofs.Common.{ℕ, ◌≡◌, refl, subst, arith}
use Rattle.base.proofs.laws.ResultLaws.{exit_of}
use Rattle.cut_tree.specs.Path.{query_number}
use Rattle.network.specs.Refusals.{outcome_number}
use Rattle.plan.proofs.laws.FlowsLaws.{flow_no_pair}
use Rattle.plan.proofs.flows.flow.Goals as goal

-- a pair of so many nodes is one of the plan's
of_plan : {number k : ℕ} (n s t : ℕ) → number ≡ query_number k s t → k ≡ n → number ≡ query_number n s t
of_plan {number} n s t h e = subst (λ (m : ℕ). number ≡ query_number m s t) e h

pub returns-in_err-check_pair : goal.returns-in_err-check_pair
returns-in_err-check_pair c =
    let a = c.args in
    rw (exit_of outcome_number _ _ _ c.from_residual-in_err-check_pair.ensures.1 refl)
    (flow_no_pair _ _ _ _ c.in_ok-check_sound.ensures _
    (of_plan a.p.network.nodes a.s a.t c.in_err-check_pair.ensures (grind arith)))
