-- What the contracts of a rebuild's parts cite; its own contract is `rebuilt`, and that of a first build `rule`. A step
-- of the rule, and the keeping test on the numbers that the code hands about: a changed link and a recorded step,
-- without the network and the arrays.
use Rattle.std.specs.Prelude.{ℕ, ◌-◌, ◌≤◌, ◌<◌, ◌≡◌, Bool, true, ◌&&◌, Option, None, Some, eqb}
use Rattle.base.specs.Word.{holds}
use Rattle.base.specs.Basics.{pick, at, differ}
use Rattle.network.specs.Limits.{max_capacity}
use Rattle.network.specs.Network.{network_fits}
use Rattle.network.specs.declared.Network.{Network}
use Rattle.max_flow.specs.declared.Cut.{Cut}
use Rattle.cut_tree.specs.Rule.{least_cut}
use Rattle.cut_tree.specs.Rebuild.{KeepTest, survives}
use Rattle.cut_tree.specs.declared.Steps.{Steps}
use Rattle.cut_tree.specs.Rule.{StepCut}
use Rattle.cut_tree.specs.declared.keep.Change.{Change}
use Rattle.cut_tree.specs.declared.Recorded.{Recorded}

-- ---- a step
-- the parent p of a node of the side: s in place of t
abbrev pub moved_one : (p s t : ℕ) → ℕ
moved_one p s t = pick (eqb p t) s p

-- the cut of step s, of pivot t: the one that is kept, else the least minimum cut, worked out
abbrev pub kept_or_least : Network → (s t : ℕ) → Option Cut → StepCut
kept_or_least net s t (Some c) = record { side = c.side; value = c.value; anew = 0 }
kept_or_least net s t None = least_cut net s t

-- what keeps steps, by what it can return for step s and pivot t, gives these cuts
abbrev pub Gives : Network → (returns : ℕ → ℕ → Option Cut → Type 0) → (cut : ℕ → ℕ → StepCut) → Type 0
Gives net returns cut =
    (s t : ℕ) (r : Option Cut) → s < net.nodes → t < s → returns s t r → kept_or_least net s t r ≡ cut s t

-- ---- the keeping test
-- what is recorded of step s
abbrev pub step_of : Steps → ℕ → Recorded
step_of steps s = record { pivot = at steps.pivot s; cut = record { side = at steps.side s; value = at steps.value s } }

abbrev pub crossed : Change → (side : ℕ) → Bool
crossed h side = differ (holds side h.link.a) (holds side h.link.b)

-- the link's keeping test
unfoldable pub survived : Change → KeepTest
survived h side value = survives (crossed h side) value h.link.capacity h.new

unfoldable pub step_kept : Change → Recorded → ℕ → Bool
step_kept h o t = eqb o.pivot t && survived h o.cut.side o.cut.value

-- the cut of a step, its value less by the fall
abbrev pub kept_cut : Change → Recorded → Cut
kept_cut h o = record { side = o.cut.side; value = o.cut.value - (h.link.capacity - h.new) }

-- it, where the step is kept
unfoldable pub kept : Change → Recorded → ℕ → Option Cut
kept h o t = pick (step_kept h o t) (Some (kept_cut h o)) None

-- ---- the change
-- one that can be worked out: of a link of a network within the limits, to a capacity within them
pub record Changes (net : Network) (k d : ℕ) : Type 0 where
  pub fits : network_fits net ≡ true
  pub link : k < net.links
  pub capacity : d ≤ max_capacity
