-- A flow while it is sought (docs/SCOPE.md, 3): "each link has two spare capacities, one each way", here its residual
-- capacities. The flow that they stand for, its total, and what an improvement does to both.
use Rattle.std.specs.Prelude.{◌≡◌, List, [], ℕ, ℤ, pos, ◌+ℤ◌, ◌-ℤ◌, get_or}
use Rattle.base.specs.Basics.{at}
use Rattle.min_cut.specs.Lawful.{Lawful, total}
use Rattle.network.specs.Network.{graph}
use Rattle.network.specs.declared.Network.{Network}

-- the residual capacities are a row of two for each link: link k's from a to b, and the one back
abbrev pub ahead : List (List ℕ) → ℕ → ℕ
ahead r k = get_or (get_or r k []) 0 0

abbrev pub back : List (List ℕ) → ℕ → ℕ
back r k = get_or (get_or r k []) 1 0

-- the flow that they stand for: each link carries its capacity less what is left of it from a to b
abbrev pub flow_in : Network → List (List ℕ) → ℕ → ℤ
flow_in net r k = pos (at net.capacity k) -ℤ pos (ahead r k)

-- its total: what leaves s less what enters s
abbrev pub total_in : Network → List (List ℕ) → ℕ → ℤ
total_in net r s = total (graph net) (flow_in net r) s

-- it is lawful for s and t
abbrev pub LawfulIn : Network → (s t : ℕ) → List (List ℕ) → Type 0
LawfulIn net s t r = Lawful (graph net) net.nodes s t (flow_in net r)

-- what is carried along: the flow is lawful for s and t, and v is its total
pub record HasTotal (net : Network) (s t v : ℕ) (r : List (List ℕ)) : Type 0 where
  pub lawful : LawfulIn net s t r
  pub total : total_in net r s ≡ pos v

-- an improvement by d, which makes r' of r: a lawful flow stays lawful, and the total is the old total plus d
pub record Improved (net : Network) (s t d : ℕ) (r r' : List (List ℕ)) : Type 0 where
  pub lawful : LawfulIn net s t r → LawfulIn net s t r'
  pub total : total_in net r' s ≡ total_in net r s +ℤ pos d
