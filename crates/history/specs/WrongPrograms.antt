-- The buyer's note of the paper: wrong programs, and that what is claimed rules each of them out where the note says
-- so.
use Rattle.std.specs.Prelude.{ℕ, List, [], ◌∷◌, eqb}
use Rattle.base.specs.Basics.{pick, at}
use Rattle.network.specs.Network.{with_capacity}
use Rattle.cut_tree.specs.Rule.{no_tree}
use Rattle.cut_tree.specs.Path.{PairAnswer}
use Rattle.plan.specs.Plan.{no_stack, push, plan_of, plan_with}
use Rattle.plan.specs.Calls.{change_of}
use Rattle.history.specs.Machine.{change, pair, ask}
use Rattle.history.specs.Run.{Event}
use Rattle.plan.proofs.examples.ResortA.{network_a, steps_a, plan_a}
use Rattle.plan.specs.declared.Plan.{Plan}
use Rattle.plan.specs.Calls.{Changed}

abbrev pub changing : (k c : ℕ) → Changed → Event
changing k c r = record { call = change k c; reply = r }

-- ---- a change that pushes its entry and leaves the tree, whatever it counts
abbrev pub stacking : Plan → (k c count : ℕ) → Changed
stacking p k c count =
    let stack = push p.stack k (at p.network.capacity k) in
    record { number = 0; count = count; plan = plan_of (with_capacity p.network k c) p.tree p.steps stack }

-- ---- one that works the first change out, and afterwards only stacks
abbrev pub works_once : Plan → (k c count : ℕ) → Changed
works_once p k c count = pick (eqb p.stack.depth 0) (change_of p k c) (stacking p k c count)

abbrev pub twice : ℕ → List Event
twice count =
    let p = (change_of plan_a 3 4).plan in
    changing 3 4 (works_once plan_a 3 4 count) ∷ changing 1 1 (works_once p 1 1 count) ∷ []

-- ---- one that works the tree out and leaves the lightest edge of the tree before: in P4 that is node 2's of weight 6,
-- where the new tree's is node 1's of weight 8
abbrev pub leaving_the_edge : Plan → (k c : ℕ) → Changed
leaving_the_edge p k c =
    let r = change_of p k c in
    let q = r.plan in
    let plan = plan_with q.network q.tree q.steps q.stack p.lightest in
    record { number = r.number; count = r.count; plan = plan }

-- ---- a star of zeros for each file
abbrev pub star_a : Plan
star_a = plan_of network_a no_tree steps_a no_stack

-- ---- beside the note, document 02's: a tie that goes to the edge nearest the asker, as node 3's for (3, 1). Those of
-- nodes 2 and 3 are equally light, and both ends show the lower number
abbrev pub asking : (s t : ℕ) → PairAnswer → Event
asking s t r = record { call = ask (pair s t); reply = r }
