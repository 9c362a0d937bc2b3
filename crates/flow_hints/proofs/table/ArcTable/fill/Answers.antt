-- `fill` puts in the arcs of the links that have come.
use Rattle.std.proofs.Common.{add-one}
use Rattle.network.proofs.laws.EachLink.{turns}
use Rattle.flow_hints.specs.code.Hints.{table_up_to}
use Rattle.flow_hints.proofs.table.ArcTable.fill.Goals as goal

pub loop-k-preserved : goal.loop-k-preserved
unfolding table_up_to
loop-k-preserved c =
    let o = c.loop-k.invariant in
    let turn = turns o.numbered c.in-Some.ensures.steps in
    let ends = c.ends-u.ensures in
    let there = rw (turn.place, ends, turn.is.same, o.filled) at c.put.ensures in
    let back = rw (turn.place, ends, turn.is.same, there) at c.put-in-loop-k.ensures in
    record { numbered = turn.next; filled = rw (turn.come, add-one) back }
