-- `plan::NodeCount::weights_fit` meets its contract: an edge that is none of the tree's settles it, and else the weights do.
use Rattle.std.proofs.Common.{rules, arith, sym, ◌-◌, ◌∙◌}
use Rattle.base.proofs.laws.RangeLaws.{all_from_range}
use Rattle.plan.proofs.laws.WeightLaws.{weight_test, weights_from_one, not_own}
use Rattle.plan.proofs.node_count.NodeCount.weights_fit.Goals as goal

pub returns-then-is_edge : goal.returns-then-is_edge
returns-then-is_edge c =
    let n = c.args.self.count in
    let few = c.args.self.few in
    let some = c.args.self.some in
    let weight = c.args.weight.now in
    let e = c.args.lightest in
    all_from_range (weight_test n few weight e) 1 n c.all.ensures.ran (λ x b q k. search rules)
    ∙ weights_from_one n few weight e (n - 1) (omega (arith, some)) c.requires (sym c.is_edge.ensures ∙ c.if-is_edge.true)

pub returns-else-is_edge : goal.returns-else-is_edge
returns-else-is_edge c =
    let e = c.if-is_edge.false in
    e ∙ sym (not_own c.args.self.count c.args.self.few c.args.weight.now c.args.lightest (sym c.is_edge.ensures ∙ e))
