-- `worked_out` meets its contract: the loop has steps 1 to s - 1.
use Rattle.std.proofs.Common.{arith}
use Rattle.network.proofs.laws.NetworkLaws.{nodes_pos}
use Rattle.cut_tree.proofs.laws.LoopLaws.{going_start, going_kept, going_least, going_end}
use Rattle.cut_tree.proofs.trees.worked_out.Goals as goal
use Rattle.cut_tree.proofs.trees.worked_out.Goals.{in-Some, in-None}

pub loop-s-init : goal.loop-s-init
loop-s-init g c = rw (c.before.new-tree.ensures, c.new-steps.ensures) (going_start _ _)

pub loop-s-preserved : goal.loop-s-preserved
loop-s-preserved g c =
    elim c.match-kept.branch [
      | in-Some w ↦ going_kept _ _ _ _ c.loop-s.invariant _ c.kept.ensures c.loop-s-test.true _ _ _ c.place.ensures
          c.record.ensures (cc) _ (cc)
      | in-None w ↦ going_least _ _ _ _ c.loop-s.invariant _ c.kept.ensures c.loop-s-test.true _ _ _ c.place.ensures
          c.record.ensures (cc) (cc) _ (cc)
    ]

pub returns : goal.returns
returns g c = λ cut gives.
    let few = nodes_pos c.args.net.network c.args.net.fits in
    going_end _ _ _ _ c.loop-s.invariant c.loop-s-test.false (omega arith) cut gives
