-- Flow sent from u to t: the arc back, and what is sent.
use Rattle.std.specs.Prelude.{◌≡◌, List, ℕ, ◌+◌, ◌-◌, ◌*◌, ◌%◌, ◌≤◌, true}
use Rattle.base.specs.Word.{holds}
use Rattle.min_cut.specs.code.Arcs.{tip}
use Rattle.network.specs.Network.{graph}
use Rattle.network.specs.declared.Network.{Network}
use Rattle.max_flow.specs.code.Residuals.{room_on, Sent}

-- the arc back
abbrev pub other_way : ℕ → ℕ
other_way j = j + 1 - 2 * (j % 2)

-- d, at most the limit, is sent from u to t, which leaves r' of r; no arc to a node of `on` has less room than before
pub record Sends (net : Network) (t on u limit d : ℕ) (r r' : List (List ℕ)) : Type 0 where
  pub within : d ≤ limit
  pub sent : Sent net u t d r r'
  pub kept : (e : ℕ) → holds on (tip (graph net) e) ≡ true → room_on r e ≤ room_on r' e
