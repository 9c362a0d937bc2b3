-- `push` meets its contract: at place i the amount is sent from there to the node reached last. Places fall.
use Rattle.std.proofs.Common.{arith}
use Rattle.max_flow.specs.code.Push.{OnPath}
use Rattle.max_flow.proofs.laws.ResidualLaws.{may_send}
use Rattle.max_flow.proofs.code.Push.{half_next, half_end, is_on_path}
use Rattle.max_flow.proofs.augment.push.Goals as goal
use Rattle.max_flow.proofs.augment.push.Goals.{In-loop-i}

-- what the code relies on at the place at hand
on : (c : In-loop-i) → OnPath c.requires.0 c.args.tree.now c.args.d c.loop-i.i c.loop-i.left
on c = is_on_path c.requires.2 (c.loop-i.invariant c.requires.0 c.requires.1 c.requires.2) c.loop-i-test.true

pub offset_bounds-tree-i : goal.offset_bounds-tree-i
offset_bounds-tree-i c = omega (arith, on (goal.at.offset_bounds-tree-i c).In-loop-i)

pub bounds-tree-i : goal.bounds-tree-i
bounds-tree-i c = (on (goal.at.bounds-tree-i c).In-loop-i).place

pub bounds-tree-i-in-loop-i : goal.bounds-tree-i-in-loop-i
bounds-tree-i-in-loop-i c = (on (goal.at.bounds-tree-i-in-loop-i c).In-loop-i).place

pub bounds-tree-f : goal.bounds-tree-f
bounds-tree-f c = omega (arith, on (goal.at.bounds-tree-f c).In-loop-i)

pub bounds-tree-i-in-loop-i-2 : goal.bounds-tree-i-in-loop-i-2
bounds-tree-i-in-loop-i-2 c = (on (goal.at.bounds-tree-i-in-loop-i-2 c).In-loop-i).place

pub along-requires : goal.along-requires
along-requires c = may_send (on (goal.at.along-requires c).In-loop-i).along

pub note_way-requires : goal.note_way-requires
note_way-requires c =
    let p = on (goal.at.note_way-requires c).In-loop-i in
    (p.tail, p.tip)

pub loop-i-preserved : goal.loop-i-preserved
loop-i-preserved c =
    λ net s a. rw c.along.ensures (half_next a (c.loop-i.invariant net s a) c.loop-i-test.true)

pub returns : goal.returns
returns c = λ net s a. half_end a (c.loop-i.invariant net s a) c.loop-i-test.false
