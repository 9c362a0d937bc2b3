-- `plan::Plan::is_sound` meets its contract: a network that fits has few enough nodes for the other tests.
use Rattle.std.proofs.Common.{sym, ◌∙◌}
use Rattle.network.proofs.laws.NetworkLaws.{nodes_pos, nodes_le}
use Rattle.plan.proofs.Plan.is_sound.Goals as goal

pub invariant_of-nodes : goal.invariant_of-nodes
invariant_of-nodes c =
    let h = sym c.fits.ensures ∙ c.if-not-fits.false in
    record { some = nodes_pos _ h; few = nodes_le _ h }
