-- `next` of the nodes of a set takes out the lowest: the word loses its last 1.
use Rattle.std.proofs.Common.{rules}
use Rattle.node_set.specs.Set.{width}
use Rattle.node_set.proofs.laws.LowestLaws.{cleared}
use Rattle.node_set.proofs.laws.SizeLaws.{size_removed}
use Rattle.node_set.proofs.members.MembersIterator.next.Goals as goal

pub returns-clause-steps : goal.returns-clause-steps
returns-clause-steps c = (c.lowest-i.ensures, cleared _ _ c.lowest-i.ensures)

pub returns-clause-goes : goal.returns-clause-goes
returns-clause-goes c =
    let i = c.lowest-i.ensures in
    rw (cleared _ _ i) (let fewer = size_removed width _ _ i.small i.here in search rules)
