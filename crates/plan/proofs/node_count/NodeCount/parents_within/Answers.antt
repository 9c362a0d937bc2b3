-- `plan::NodeCount::parents_within` meets its contract: the parents are the array's first numbers.
use Rattle.std.proofs.Common.{◌∙◌, arith}
use Rattle.plan.proofs.laws.SoundLaws.{all_take}
use Rattle.plan.proofs.node_count.NodeCount.parents_within.Goals as goal

pub returns : goal.returns
returns c = c.are_nodes.ensures ∙ all_take _ _ _ (omega (arith, c.told-parent, c.args.self.few))
