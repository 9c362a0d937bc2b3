-- `compare` asks pairs of a tree that the rule built, in which every node reaches node 0.
use Rattle.std.proofs.Common.{◌≡◌, true}
use Rattle.network.specs.Network.{network_fits}
use Rattle.network.proofs.laws.NetworkLaws.{nodes_le}
use Rattle.network.specs.declared.Network.{Network}
use Rattle.cut_tree.specs.Rule.{rule}
use Rattle.cut_tree.proofs.laws.RuleShape.{rule_shape}
use Rattle.cut_tree.specs.Path.{Climbs}
use Rattle.cut_tree.specs.declared.Built.{Built}
use Rattle.trials.proofs.trees.Walk.compare.Goals as goal

climbs : (net : Network) → network_fits net ≡ true → (b : Built) → b ≡ rule net → Climbs net.nodes b.tree.parent
climbs net e b h =
    let shape = rule_shape net e in
    rw h (record { small = nodes_le net e; stays = λ i l. shape.parent i; rooted = shape.climbs })

pub try_pairs-requires : goal.try_pairs-requires
try_pairs-requires c = climbs c.args.changed.network c.args.changed.fits c.build-fresh.result c.build-fresh.ensures
