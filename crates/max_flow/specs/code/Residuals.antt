-- The residual capacities as the code holds them (the paper: "each link has two spare capacities, one each way"): a
-- row of two for each link.
use Rattle.std.specs.Prelude.{◌≡◌, ◌≢◌, Bool, true, false, cond, List, [], ◌∷◌, ℕ, zero, suc, ◌+◌, ◌-◌, ◌*◌, ◌/◌, ◌<◌}
use Rattle.std.specs.Prelude.{◌≤◌, set, length, replicate}
use Rattle.min_cut.specs.code.Arcs.{spare, forward}
use Rattle.min_cut.specs.code.Residual.{Pushed}
use Rattle.base.specs.Basics.{at}
use Rattle.network.specs.Limits.{max_links, max_arcs, max_capacity}
use Rattle.network.specs.Network.{network_fits, graph}
use Rattle.network.specs.declared.Network.{Network}
use Rattle.max_flow.specs.GrowingFlow.{ahead, back, HasTotal, Improved}

-- no limit to what can be sent: more than any cut's value
abbrev pub unlimited : ℕ
unlimited = 4294967295

-- what may still be sent along arc e
abbrev pub room_on : List (List ℕ) → ℕ → ℕ
room_on r e = spare (ahead r) (back r) e

-- a link's row after d more is sent along one of its arcs, ahead or back
abbrev pub row_after : Bool → (x y d : ℕ) → List ℕ
row_after true x y d = (x - d) ∷ (y + d) ∷ []
row_after false x y d = (x + d) ∷ (y - d) ∷ []

-- the residual capacities after d more is sent along arc e
abbrev pub sent_along : List (List ℕ) → (e d : ℕ) → List (List ℕ)
sent_along r e d = set r (e / 2) (row_after (forward e) (ahead r (e / 2)) (back r (e / 2)) d)

-- nothing is sent yet: each of the first k links may take its capacity each way
unfoldable pub full_up_to : Network → ℕ → List (List ℕ)
full_up_to net zero = replicate max_links (0 ∷ 0 ∷ [])
full_up_to net (suc k) = set (full_up_to net k) k (at net.capacity k ∷ at net.capacity k ∷ [])

abbrev pub full_residual : Network → List (List ℕ)
full_residual net = full_up_to net net.links

-- the two of each link are together twice its capacity, whatever is sent; unused rows are 0
pub record Balanced (net : Network) (r : List (List ℕ)) : Type 0 where
  pub long : length r ≡ max_links
  pub both : (k : ℕ) → k < net.links → ahead r k + back r k ≡ 2 * at net.capacity k
  pub none : (k : ℕ) → net.links ≤ k → k < max_links → ahead r k + back r k ≡ 0

-- arc e has room for d, and its link's row for what is added: what the code asks before it changes the row
pub record MaySend (r : List (List ℕ)) (e d : ℕ) : Type 0 where
  pub arc : e < max_arcs
  pub room : d ≤ cond (forward e) (ahead r (e / 2)) (back r (e / 2))
  pub sum : ahead r (e / 2) + back r (e / 2) ≤ 2 * max_capacity

-- d may be sent along arc e of a network
pub record Along (net : Network) (r : List (List ℕ)) (e d : ℕ) : Type 0 where
  pub fits : network_fits net ≡ true
  pub balanced : Balanced net r
  pub here : e < 2 * net.links
  pub spare : d ≤ room_on r e

-- r holds a flow from s to t, and v is its total
pub record Flowing (net : Network) (s t v : ℕ) (r : List (List ℕ)) : Type 0 where
  pub balanced : Balanced net r
  pub flow : HasTotal net s t v r

-- one push: d more is sent from u to w, which leaves r' of r. It improves the flow from u to w by d; `pushed`, what it
-- does to the residual capacity of every side, is how pushes along a way add up
pub record Sent (net : Network) (u w d : ℕ) (r r' : List (List ℕ)) : Type 0 where
  pub improved : u ≢ w → Improved net u w d r r'
  pub balanced : Balanced net r'
  pub pushed : Pushed (graph net) u w d (ahead r) (back r) (ahead r') (back r')
