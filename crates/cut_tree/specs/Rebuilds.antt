-- A rebuild from the rule's steps is the rule on the new network, if its keeping test is right: kept steps are those
-- that would be worked out. Its count; one changed link as an instance; the first build as a rebuild.
use Rattle.std.specs.Prelude.{◌≡◌, ◌≢◌, true, ℕ, ◌<◌}
use Rattle.base.specs.Word.{holds}
use Rattle.network.specs.Network.{least_side, min_cut_value}
use Rattle.network.specs.declared.Network.{Network}
use Rattle.cut_tree.specs.Rebuild.{KeepTest}
use Rattle.cut_tree.specs.KeepLemma.{LosesMost}

-- a keeping test is right: a least minimum cut of the old network that can stay loses the fall, and no side loses more
abbrev pub RightTest : (old new : Network) → KeepTest → (fall : ℕ) → Type 0
RightTest old new test fall =
    (s t : ℕ) → s < old.nodes → t < old.nodes → s ≢ t
    → test (least_side old s t) (min_cut_value old s t) ≡ true → LosesMost old new (holds (least_side old s t)) fall
