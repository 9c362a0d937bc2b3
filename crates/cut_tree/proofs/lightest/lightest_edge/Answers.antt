-- The first of the least weights is that of the lightest edge.
use Rattle.std.proofs.Common.{rules, arith, ◌<◌}
use Rattle.cut_tree.proofs.laws.FirstLightestLaws.{IsLightest, first_lightest}
use Rattle.cut_tree.proofs.lightest.lightest_edge.Goals as goal
use Rattle.cut_tree.proofs.lightest.lightest_edge.Goals.{In-Some}

-- what is found is a node, and its edge the lightest
found : (c : In-Some) → (c.in-Some.best < c.args.n) × IsLightest c.args.weight.now c.args.n c.in-Some.best
found c = first_lightest c.args.weight.now _ _ c.requires c.in-Some.ensures.ran (λ x k q h. search rules)
    (λ x k q h y l r i. grind (arith, h, i))

pub overflow_cast-result : goal.overflow_cast-result
overflow_cast-result c = omega (arith, c.requires, (found c).0)

pub offset_bounds-weight-best : goal.offset_bounds-weight-best
offset_bounds-weight-best c = omega (arith, c.requires, (found c).0)

pub bounds-weight-best : goal.bounds-weight-best
bounds-weight-best c = omega (arith, c.requires, (found (goal.at.bounds-weight-best c).In-Some).0)

pub returns-in-Some : goal.returns-in-Some
returns-in-Some c = (found (goal.at.returns-in-Some c).In-Some).1
