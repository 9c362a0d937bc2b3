-- A network within the limits has few links.
use Rattle.std.proofs.Common.{arith}
use Rattle.network.proofs.laws.NetworkLaws.{links_le}
use Rattle.trials.proofs.trees.Walk.change_once.Goals as goal

pub draw-k-requires : goal.draw-k-requires
draw-k-requires c =
    let walk = c.args.self.now in
    omega (arith, links_le walk.network.network walk.network.fits)
