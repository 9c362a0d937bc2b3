-- `network::Network::links_fit` meets its contract. The loop's invariant: the links before k fit.
use Rattle.std.proofs.Common.{◌≡◌, true}
use Rattle.base.specs.Basics.{all}
use Rattle.network.specs.Network.{link_fits}
use Rattle.network.proofs.Network.links_fit.Given as goal

abbrev pub invariant-loop-k : goal.invariant-loop-k
invariant-loop-k l = all l.k (link_fits l.self) ≡ true
