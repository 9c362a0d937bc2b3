-- The buffer has room for every link.
use Rattle.std.proofs.Common.{sym, length-take-le}
use Rattle.network.proofs.laws.NetworkLaws.{links_le}
use Rattle.trials.proofs.flows.pair_right.Goals as goal

pub slice_bounds-room-end : goal.slice_bounds-room-end
slice_bounds-room-end c = links_le c.args.net.network c.args.net.fits

pub slice_bounds-flow-end : goal.slice_bounds-flow-end
slice_bounds-flow-end c = sym (length-take-le _ _ (links_le c.args.net.network c.args.net.fits))

pub lawful_flow-requires-clause-out_len : goal.lawful_flow-requires-clause-out_len
lawful_flow-requires-clause-out_len c = length-take-le _ _ (links_le c.args.net.network c.args.net.fits)
