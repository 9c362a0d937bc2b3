-- "The plan": the record, its soundness (number 19) exactly as docs/SCOPE.md, 7 lists it, the plan of all zeros, the
-- stack pushed and popped. This tests shape only, and that the lightest edge is the tree's own: that a tree is the
-- network's cut tree is said of plans reached from an opening.
use Rattle.std.specs.Prelude.{ℕ, zero, suc, ◌+◌, ◌-◌, ◌^◌, Bool, not, [], ◌∷◌, set, replicate, ltb, leb, eqb}
use Rattle.base.specs.Word.{holds}
use Rattle.base.specs.Basics.{at, all, every, blank_from}
use Rattle.network.specs.Limits.{max_capacity, max_value}
use Rattle.network.specs.Network.{network_fits, no_network}
use Rattle.network.specs.declared.Network.{Network}
use Rattle.cut_tree.specs.Rule.{no_tree, no_steps}
use Rattle.cut_tree.specs.Path.{max_climb, reaches}
use Rattle.cut_tree.specs.LightestEdge.{no_edge, lightest_edge, equal_edges}
use Rattle.cut_tree.specs.declared.Edge.{Edge}
use Rattle.cut_tree.specs.declared.Tree.{Tree}
use Rattle.cut_tree.specs.declared.Steps.{Steps}
use Rattle.plan.specs.declared.Stack.{Stack}
use Rattle.plan.specs.declared.Plan.{Plan}

-- entries of the stack
abbrev pub max_depth : ℕ
max_depth = 64

-- ---- soundness
-- parents first: a climb then stays among the nodes
unfoldable pub tree_fits : ℕ → Tree → Bool
tree_fits n tree =
    every (
    eqb (at tree.parent 0) 0
    ∷ eqb (at tree.weight 0) 0
    ∷ all n (λ i. ltb (at tree.parent i) n)
    ∷ all n (λ i. leb (at tree.weight i) max_value)
    ∷ all n (reaches tree.parent max_climb)
    ∷ blank_from n tree.parent
    ∷ blank_from n tree.weight
    ∷ [])

-- step s: its side holds s, not its pivot, and no node from n on; node 0's step is all 0
abbrev pub step_fits : ℕ → Steps → ℕ → Bool
step_fits n steps zero =
    every (eqb (at steps.pivot 0) 0 ∷ eqb (at steps.side 0) 0 ∷ eqb (at steps.value 0) 0 ∷ [])
step_fits n steps (suc s) =
    every (
    ltb (at steps.pivot (suc s)) n
    ∷ ltb (at steps.side (suc s)) (2 ^ n)
    ∷ leb (at steps.value (suc s)) max_value
    ∷ holds (at steps.side (suc s)) (suc s)
    ∷ not (holds (at steps.side (suc s)) (at steps.pivot (suc s)))
    ∷ [])

unfoldable pub steps_fit : ℕ → Steps → Bool
steps_fit n steps =
    every (all n (step_fits n steps) ∷ blank_from n steps.pivot ∷ blank_from n steps.side
    ∷ blank_from n steps.value ∷ [])

abbrev pub entry_fits : ℕ → Stack → ℕ → Bool
entry_fits m stack i = every (ltb (at stack.link i) m ∷ leb (at stack.capacity i) max_capacity ∷ [])

unfoldable pub stack_fits : ℕ → Stack → Bool
stack_fits m stack =
    every (
    leb stack.depth max_depth
    ∷ all stack.depth (entry_fits m stack)
    ∷ blank_from stack.depth stack.link
    ∷ blank_from stack.depth stack.capacity
    ∷ [])

unfoldable pub sound : Plan → Bool
sound p =
    every (
    network_fits p.network
    ∷ tree_fits p.network.nodes p.tree
    ∷ equal_edges p.lightest (lightest_edge p.network.nodes p.tree)
    ∷ steps_fit p.network.nodes p.steps
    ∷ stack_fits p.network.links p.stack
    ∷ [])

-- ---- the stack
abbrev pub no_stack : Stack
no_stack = record { depth = 0; link = replicate max_depth 0; capacity = replicate max_depth 0 }

abbrev pub push : Stack → ℕ → ℕ → Stack
push stack k c = record {
  depth = stack.depth + 1;
  link = set stack.link stack.depth k;
  capacity = set stack.capacity stack.depth c;
}

abbrev pub pop : Stack → Stack
pop stack =
    record {
      depth = stack.depth - 1;
      link = set stack.link (stack.depth - 1) 0;
      capacity = set stack.capacity (stack.depth - 1) 0;
    }

-- ---- the record, from its parts
abbrev pub plan_with : Network → Tree → Steps → Stack → Edge → Plan
plan_with network tree steps stack lightest =
    record { network = network; tree = tree; steps = steps; stack = stack; lightest = lightest }

-- with its tree's lightest edge
abbrev pub plan_of : Network → Tree → Steps → Stack → Plan
plan_of network tree steps stack = plan_with network tree steps stack (lightest_edge network.nodes tree)

-- all zeros: what stands beside a refused opening
abbrev pub no_plan : Plan
no_plan = plan_with no_network no_tree no_steps no_stack no_edge
