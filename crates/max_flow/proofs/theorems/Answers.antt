-- That the answers are what their names say: the cut is the least minimum cut among all sides, and no lawful flow has a
-- larger total.
use Rattle.std.proofs.Common.{◌≡◌, ℕ, List, ℤ, refl}
use Rattle.min_cut.specs.Cut.{cut_value, LeastMinCut}
use Rattle.base.specs.Word.{holds}
use Rattle.min_cut.proofs.theorems.LeastCut.{least_min_cut_least}
use Rattle.min_cut.specs.Lawful.{MaximumFlow}
use Rattle.min_cut.proofs.theorems.MaxFlow.{tight_maximum}
use Rattle.network.specs.Network.{graph, least_side, min_cut_value, flow_at}
use Rattle.network.proofs.laws.NetworkLaws.{ends_within}
use Rattle.network.specs.declared.Network.{Network}
use Rattle.max_flow.specs.LeastCut.{Endpoints, least_cut_of}
use Rattle.max_flow.specs.LargestFlow.{LargestFlow}

module _ {net : Network} {s t : ℕ} (a : Endpoints net s t) where
  least : LeastMinCut (graph net) s t (holds (least_side net s t))
  least = least_min_cut_least net.nodes (graph net) s t (ends_within net a.fits) a.source a.sink a.apart

  pub least_cut_of_least : LeastMinCut (graph net) s t (holds (least_cut_of net s t).side)
  unfolding least_cut_of
  least_cut_of_least = least

  pub least_cut_of_value : (least_cut_of net s t).value ≡ cut_value (graph net) (holds (least_cut_of net s t).side)
  unfolding least_cut_of
  least_cut_of_value = refl

  pub largest_maximum : (f : List ℤ) → LargestFlow net s t f
      → MaximumFlow (graph net) net.nodes s t (min_cut_value net s t) (flow_at f)
  largest_maximum f h =
      tight_maximum (graph net) net.nodes s t (ends_within net a.fits) a.source (flow_at f) h.lawful.lawful
      (holds (least_side net s t))
      least.minimum.inside least.minimum.outside h.total
