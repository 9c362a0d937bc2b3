-- `plan::NodeCount::each_step_fits` meets its contract: node 0's step comes before the others'.
use Rattle.std.proofs.Common.{rules, arith, sym, ◌-◌, ◌∙◌}
use Rattle.base.proofs.laws.RangeLaws.{all_from_range}
use Rattle.plan.proofs.laws.SoundLaws.{step_test, steps_from_one, root_step_fails}
use Rattle.plan.proofs.node_count.NodeCount.each_step_fits.Goals as goal

pub returns-then-root_step_within : goal.returns-then-root_step_within
returns-then-root_step_within c =
    let n = c.args.self.count in
    let some = c.args.self.some in
    let root = rw c.step.ensures at (sym c.root_step_within.ensures ∙ c.if-root_step_within.true) in
    all_from_range (step_test n c.args.steps) 1 n c.all.ensures.ran (λ x b q k. search rules)
    ∙ steps_from_one n c.args.steps (n - 1) (omega (arith, some)) root

pub returns-else-root_step_within : goal.returns-else-root_step_within
returns-else-root_step_within c =
    let e = c.if-root_step_within.false in
    let root = rw c.step.ensures at (sym c.root_step_within.ensures ∙ e) in
    e ∙ sym (root_step_fails c.args.self.count c.args.steps root c.args.self.some)
