-- The loop has the subtree of v among the nodes before i.
use Rattle.std.proofs.Common.{◌∙◌}
use Rattle.node_set.specs.Set.{empty}
use Rattle.cut_tree.proofs.laws.SideLaws.{pass_start, pass_known}
use Rattle.cut_tree.proofs.rooted.RootedTree.subtree.Goals as goal

pub loop-i-init : goal.loop-i-init
unfolding empty
loop-i-init c = c.empty-x.ensures ∙ pass_start _ _

pub climbs_through-requires : goal.climbs_through-requires
climbs_through-requires c = (c.loop-i-test.true, pass_known _ _ _ _ c.loop-i.invariant _ c.args.self.now.climbs c.loop-i-test.true)
