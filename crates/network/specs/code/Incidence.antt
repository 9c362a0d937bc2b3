-- The incidence lists that a search walks: each node's own arcs, chained, so that no search scans all links.
-- Arc 2k goes from a[k] to b[k], and arc 2k + 1 back.
use Rattle.std.specs.Prelude.{◌≡◌, List, [], ◌∷◌, ℕ, zero, suc, ◌-◌, ◌<◌, ◌≤◌, eqb}
use Rattle.min_cut.specs.Cut.{Net}
use Rattle.min_cut.specs.code.Arcs.{tail, tip}
use Rattle.base.specs.Basics.{at, pick}
use Rattle.network.specs.Network.{graph}
use Rattle.network.specs.code.ArcLinks.{entry_at}
use Rattle.network.specs.declared.Network.{Network}
use Rattle.network.specs.declared.arc_link.ArcLink.{ArcLink}

-- an arc below j whose number is one less than x leaves u, unless x is 0
pub record Leaves (net : Network) (u j x : ℕ) : Type 0 where
  pub under : x ≤ j
  pub from : 0 < x → tail (graph net) (x - 1) ≡ u

-- the chains of the arcs below j: `first` at u is the last arc that leaves u, `next` at e the last arc before e with
-- e's tail, or none; `to` at e is where arc e leads
pub record Chains (net : Network) (j : ℕ) (first next : List ArcLink) (to : List ℕ) : Type 0 where
  pub first_leaves : (u : ℕ) → u < net.nodes → Leaves net u j (entry_at first u)
  pub first_last : (e : ℕ) → e < j → e < entry_at first (tail (graph net) e)
  pub next_leaves : (e : ℕ) → e < j → Leaves net (tail (graph net) e) e (entry_at next e)
  pub next_last : (e i : ℕ) → e < j → i < e → tail (graph net) i ≡ tail (graph net) e → i < entry_at next e
  pub leads : (e : ℕ) → e < j → at to e ≡ tip (graph net) e

-- the arcs below j that leave u, in falling order
unfoldable pub arcs_from : Net → ℕ → ℕ → List ℕ
arcs_from G u zero = []
arcs_from G u (suc e) = pick (eqb (tail G e) u) (e ∷ arcs_from G u e) (arcs_from G u e)

-- the arcs met from x on, which is one more than an arc, or 0 at the end: no more of them than `most`.
-- IncidenceLaws: from `first` at u these are arcs_from u.
unfoldable pub walk : ℕ → List ℕ → ℕ → List ℕ
walk zero next x = []
walk (suc most) next zero = []
walk (suc most) next (suc e) = e ∷ walk most next (at next e)
