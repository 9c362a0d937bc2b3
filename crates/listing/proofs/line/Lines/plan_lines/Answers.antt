-- `plan_lines` meets its contract: the tree, then the pairs.
use Rattle.std.proofs.Common.{◌∙◌, arith}
use Rattle.base.proofs.laws.PutsLaws.{puts_length}
use Rattle.listing.proofs.laws.LinesLaws.{plan_length, plan_puts}
use Rattle.listing.proofs.line.Lines.plan_lines.Goals as goal

pub tree_lines-requires-clause-nodes_in_bounds : goal.tree_lines-requires-clause-nodes_in_bounds
tree_lines-requires-clause-nodes_in_bounds c = omega (arith, plan_length c.args.p)

pub pair_lines-requires : goal.pair_lines-requires
pair_lines-requires c =
    let t = c.tree_lines.ensures.puts in omega (arith, plan_length c.args.p, puts_length t, t.next_is)

pub returns : goal.returns
returns c =
    let t = c.tree_lines.ensures in
    let q = c.pair_lines.ensures in
    record { same = q.same ∙ t.same; puts = plan_puts c.args.p t.puts q.puts }
