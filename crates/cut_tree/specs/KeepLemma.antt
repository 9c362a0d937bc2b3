-- THE KEEP LEMMA, "lemma 1 of source document 000, used on least sides": a least minimum cut that loses as much as any
-- side, as one network becomes another, is the least minimum cut afterwards. Then for one changed link: a cut that
-- survives loses what the capacity falls by.
use Rattle.std.specs.Prelude.{◌≡◌, ℕ, ◌+◌, ◌≤◌}
use Rattle.min_cut.specs.Cut.{Side, Within}
use Rattle.network.specs.Network.{graph, value_of}
use Rattle.network.specs.declared.Network.{Network}

-- as the old network becomes the new one, the side X loses e of its value, and no side loses more
pub record LosesMost (old new : Network) (X : Side) (e : ℕ) : Type 0 where
  pub own : value_of new X + e ≡ value_of old X
  pub most : (Y : Side) → value_of old Y ≤ value_of new Y + e

-- the new network has the nodes of the old one, and its links join nodes
pub record SameNodes (old new : Network) : Type 0 where
  pub nodes : new.nodes ≡ old.nodes
  pub ends : Within (graph new) new.nodes
