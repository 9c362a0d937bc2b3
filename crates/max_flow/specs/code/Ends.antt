-- What the methods of two ends ask of a network.
use Rattle.std.specs.Prelude.{◌≡◌}
use Rattle.network.specs.declared.Network.{Network}
use Rattle.max_flow.specs.code.Residuals.{full_residual}
use Rattle.max_flow.specs.code.Search.{Ready}
use Rattle.max_flow.specs.declared.ends.Ends.{Ends}

-- the two are nodes of it, and what is lent are its arcs and its full residual capacities; the table and the hints may
-- be any
pub record OfNetwork (net : Network) (ends : Ends) : Type 0 where
  pub ready : Ready net ends.arcs.now.first ends.arcs.now.next ends.arcs.now.to ends.s ends.t
  pub unsent : ends.full.now ≡ full_residual net
