-- Augmenting: the residual capacities hold a flow from s to t all along, whose total is carried along and grows until
-- no search reaches t. What was reached then is the least minimum cut, and the total is its value.
use Rattle.std.specs.Prelude.{◌≡◌, List, ℕ, ◌+◌, ◌<◌, ◌≤◌, ℤ, length}
use Rattle.network.specs.Limits.{max_value}
use Rattle.network.specs.declared.Network.{Network}
use Rattle.max_flow.specs.LeastCut.{least_cut_of}
use Rattle.max_flow.specs.code.Residuals.{Flowing}
use Rattle.max_flow.specs.LargestFlow.{LargestFlow}
use Rattle.max_flow.specs.declared.Cut.{Cut}

-- r' holds d more
pub record Growth (net : Network) (s t v d : ℕ) (r' : List (List ℕ)) : Type 0 where
  pub flowing : Flowing net s t (v + d) r'
  pub most : v + d ≤ max_value
  pub some : 0 < d

-- at the end: the least minimum cut, and a flow in the places of f, where there is one for each link
pub record Augmented (net : Network) (s t : ℕ) (cut : Cut) (f f' : List ℤ) : Type 0 where
  pub least : cut ≡ least_cut_of net s t
  pub flow : length f ≡ net.links → LargestFlow net s t f'
