-- "A change .. works the tree out again, but a step is kept": a rebuild by any keeping test, what it does not keep, and
-- the test of one changed link.
use Rattle.std.specs.Prelude.{ℕ, suc, ◌-◌, Bool, not, ◌&&◌, ◌||◌, ltb, leb, eqb}
use Rattle.base.specs.Sum.{sum}
use Rattle.base.specs.Word.{holds}
use Rattle.base.specs.Basics.{pick, at}
use Rattle.network.specs.Network.{crosses_link, with_capacity}
use Rattle.network.specs.declared.Network.{Network}
use Rattle.cut_tree.specs.Rule.{rule_by, least_cut, rule}
use Rattle.cut_tree.specs.declared.Steps.{Steps}
use Rattle.cut_tree.specs.declared.Built.{Built}
use Rattle.cut_tree.specs.Rule.{StepCut}

-- ---- a rebuild on a new network
-- a keeping test: whether a recorded cut, a side and its value, can stay
abbrev pub KeepTest : Type 0
KeepTest = (side value : ℕ) → Bool

-- step s, whose pivot is now t, is kept: its pivot is the recorded one, and its recorded cut can stay
unfoldable pub kept_by : KeepTest → Steps → (s t : ℕ) → Bool
kept_by test steps s t = eqb (at steps.pivot s) t && test (at steps.side s) (at steps.value s)

-- the recorded cut where it is kept, its value less by the fall; else the least minimum cut of the new network
unfoldable pub kept_or_least_by : (new : Network) → KeepTest → (fall : ℕ) → Steps → (s t : ℕ) → StepCut
kept_or_least_by new test fall steps s t =
    let recorded : StepCut = record { side = at steps.side s; value = at steps.value s - fall; anew = 0 } in
    pick (kept_by test steps s t) recorded (least_cut new s t)

-- the rule on the new network, with the steps that are kept
unfoldable pub rebuilt_by : (new : Network) → KeepTest → (fall : ℕ) → Steps → Built
rebuilt_by new test fall steps = rule_by (kept_or_least_by new test fall steps) (new.nodes - 1)

-- how many of the nodes 1 to n - 1 have a step that is not kept: recorded steps by the rule on the old network, new
-- pivots by the rule on the new one
unfoldable pub not_kept_by : (old new : Network) → KeepTest → ℕ
not_kept_by old new test =
    let before = (rule old).steps in
    let after = (rule new).steps in
    sum (new.nodes - 1) (λ i. pick (kept_by test before (suc i) (at after.pivot (suc i))) 0 1)

-- ---- one link's capacity changes
-- the capacity goes from c to d: it is equal; or it rises and the recorded side does not cross the link; or it falls,
-- the side crosses the link and the recorded value is at least the fall
abbrev pub survives : (crosses : Bool) (value c d : ℕ) → Bool
survives crosses value c d = eqb c d || (ltb c d && not crosses || ltb d c && (crosses && leb (c - d) value))

-- the keeping test as link k of net goes to capacity d
abbrev pub link_test : Network → (k d : ℕ) → KeepTest
link_test net k d side value = survives (crosses_link net (holds side) k) value (at net.capacity k) d

unfoldable pub rebuilt : Network → Steps → (k d : ℕ) → Built
rebuilt net steps k d = rebuilt_by (with_capacity net k d) (link_test net k d) (at net.capacity k - d) steps

unfoldable pub not_kept : Network → (k d : ℕ) → ℕ
not_kept net k d = not_kept_by net (with_capacity net k d) (link_test net k d)
