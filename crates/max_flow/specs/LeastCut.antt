-- What the flow core answers for two nodes: the least minimum cut of (s, t), with its value ("The tree" of document
-- 01).
use Rattle.std.specs.Prelude.{◌≡◌, ◌≢◌, true, ℕ, ◌<◌}
use Rattle.network.specs.Network.{network_fits, least_side, min_cut_value}
use Rattle.network.specs.declared.Network.{Network}
use Rattle.max_flow.specs.declared.Cut.{Cut}

-- a network within the limits, and two different nodes of it
pub record Endpoints (net : Network) (s t : ℕ) : Type 0 where
  pub fits : network_fits net ≡ true
  pub source : s < net.nodes
  pub sink : t < net.nodes
  pub apart : s ≢ t

-- the least minimum cut of (s, t) (the paper: the least side), and its value
unfoldable pub least_cut_of : Network → ℕ → ℕ → Cut
least_cut_of net s t = record { side = least_side net s t; value = min_cut_value net s t }
