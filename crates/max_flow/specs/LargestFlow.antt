-- The flow that is shown for two nodes (Cuts and flows (docs/SCOPE.md, 3)): lawful, and of the largest total. Which one
-- is left free.
use Rattle.std.specs.Prelude.{◌≡◌, List, ℕ, ℤ, pos}
use Rattle.network.specs.Network.{min_cut_value, LawfulFlow, total_of}
use Rattle.network.specs.declared.Network.{Network}

pub record LargestFlow (net : Network) (s t : ℕ) (f : List ℤ) : Type 0 where
  pub lawful : LawfulFlow net s t f
  pub total : total_of net f s ≡ pos (min_cut_value net s t)
