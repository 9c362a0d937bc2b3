-- Soundness by worked plans: resort A's opening is sound, plans at the limits are, and for each clause of the
-- list a plan that breaks that clause alone is not.
use Rattle.std.proofs.Common.{ℕ, zero, suc, ◌*◌, ◌≡◌, refl, Bool, true, not, ◌&&◌, List, [], ◌∷◌, set, replicate, eqb}
use Rattle.base.specs.Word.{holds}
use Rattle.base.specs.Basics.{all, every, blank}
use Rattle.network.specs.Limits.{max_nodes, max_links}
use Rattle.network.specs.Network.{network_fits}
use Rattle.network.specs.declared.Network.{Network}
use Rattle.min_cut.specs.FirstWord.{first}
use Rattle.network_file.specs.Writing.{max_file}
use Rattle.cut_tree.specs.Path.{reaches, lightest_of, number_of}
use Rattle.cut_tree.specs.LightestEdge.{lightest_among}
use Rattle.cut_tree.specs.Rule.{no_tree}
use Rattle.cut_tree.specs.declared.Tree.{Tree}
use Rattle.cut_tree.specs.declared.Steps.{Steps}
use Rattle.plan.specs.Plan.{tree_fits, steps_fit, stack_fits, sound, no_stack, push, no_plan, plan_of, plan_with}
use Rattle.plan.specs.Calls.{change_number, change_of, undo_number, undo_of, pair_number, pair_of, preview_of}
use Rattle.plan.specs.Calls.{flow_number, headroom_number, headroom_of, write_number, write_of}
use Rattle.plan.proofs.examples.ResortA.{array, network_a, tree_a, steps_a, plan_a}
use Rattle.plan.specs.declared.Stack.{Stack}
use Rattle.plan.specs.declared.Plan.{Plan}

-- ---- resort A's plan with one array changed
abbrev with_network : Network → Plan
with_network net = plan_of net tree_a steps_a no_stack

abbrev with_a : List ℕ → Plan
with_a a = with_network (record { nodes = 4; links = 5; a = a; b = network_a.b; capacity = network_a.capacity })

abbrev with_b : List ℕ → Plan
with_b b = with_network (record { nodes = 4; links = 5; a = network_a.a; b = b; capacity = network_a.capacity })

abbrev with_capacities : List ℕ → Plan
with_capacities c = with_network (record { nodes = 4; links = 5; a = network_a.a; b = network_a.b; capacity = c })

abbrev with_tree : Tree → Plan
with_tree tree = plan_of network_a tree steps_a no_stack

abbrev with_parents : List ℕ → Plan
with_parents parent = with_tree (record { parent = parent; weight = tree_a.weight })

abbrev with_weights : List ℕ → Plan
with_weights weight = with_tree (record { parent = tree_a.parent; weight = weight })

abbrev with_steps : Steps → Plan
with_steps steps = plan_of network_a tree_a steps no_stack

abbrev with_pivots : List ℕ → Plan
with_pivots pivot = with_steps (record { pivot = pivot; side = steps_a.side; value = steps_a.value })

abbrev with_sides : List ℕ → Plan
with_sides side = with_steps (record { pivot = steps_a.pivot; side = side; value = steps_a.value })

abbrev with_values : List ℕ → Plan
with_values value = with_steps (record { pivot = steps_a.pivot; side = steps_a.side; value = value })

abbrev with_stack : Stack → Plan
with_stack stack = plan_of network_a tree_a steps_a stack

-- resort A's plan with another edge for its lightest, which is that of node 2 with weight 6
abbrev with_lightest : (node weight : ℕ) → Plan
with_lightest node weight = plan_with network_a tree_a steps_a no_stack (record { node = node; weight = weight })

-- link 1, of capacity 3 before
abbrev once : Stack
once = push no_stack 1 3

-- ---- plans of many nodes and of many links
-- count numbers, each twice the one before
unfoldable pub doubling : ℕ → ℕ → List ℕ
doubling zero x = []
doubling (suc count) x = x ∷ doubling count (2 * x)

-- n nodes and no link: each step cuts its own node off from node 0
abbrev apart : ℕ → Plan
apart n =
    plan_of (record {
      nodes = n;
      links = 0;
      a = replicate max_links 0;
      b = replicate max_links 0;
      capacity = replicate max_links 0;
    }) no_tree (record {
      pivot = replicate max_nodes 0;
      side = array max_nodes (set (doubling n 1) 0 0);
      value = replicate max_nodes 0;
    }) no_stack

-- one node, with an edge all the same
abbrev alone_with : (node weight : ℕ) → Plan
alone_with node weight =
    plan_with (apart 1).network no_tree (apart 1).steps no_stack (record { node = node; weight = weight })

-- two nodes and m links between them
abbrev joined : ℕ → Plan
joined m =
    plan_of (record {
      nodes = 2;
      links = m;
      a = array max_links (replicate m 0);
      b = array max_links (replicate m 1);
      capacity = array max_links (replicate m 0);
    }) no_tree (record {
      pivot = replicate max_nodes 0;
      side = set (replicate max_nodes 0) 1 2;
      value = replicate max_nodes 0;
    }) no_stack

-- ---- sound plans, at the limits too
unfoldable pub sound_plans : List Plan
sound_plans =
    plan_a
    ∷ apart 1 ∷ apart 64
    ∷ joined 256
    ∷ with_capacities (set network_a.capacity 0 8000000)
    ∷ with_weights (set tree_a.weight 1 2048000000)
    ∷ with_values (set steps_a.value 1 2048000000)
    ∷ with_stack once
    ∷ with_stack (push no_stack 4 8000000)
    ∷ with_stack (record { depth = 64; link = no_stack.link; capacity = no_stack.capacity })
    ∷ []

-- ---- for each clause a plan that breaks it alone
unfoldable pub broken_plans : List Plan
broken_plans =
    -- n from 1 to 64, m at most 256
    no_plan ∷ apart 65 ∷ joined 257
    -- ends below n, that differ; a capacity at most 8,000,000
    ∷ with_a (set network_a.a 2 4) ∷ with_b (set network_a.b 2 4) ∷ with_b (set network_a.b 0 0)
    ∷ with_capacities (set network_a.capacity 0 8000001)
    -- the stack: at most 64 entries, its links and capacities within the limits
    ∷ with_stack (record { depth = 65; link = no_stack.link; capacity = no_stack.capacity })
    ∷ with_stack (push no_stack 5 3) ∷ with_stack (push no_stack 1 8000001)
    -- unused places are 0
    ∷ with_a (set network_a.a 5 1) ∷ with_b (set network_a.b 255 1) ∷ with_capacities (set network_a.capacity 5 1)
    ∷ with_parents (set tree_a.parent 4 1) ∷ with_weights (set tree_a.weight 63 1)
    ∷ with_pivots (set steps_a.pivot 4 1) ∷ with_sides (set steps_a.side 4 1) ∷ with_values (set steps_a.value 63 1)
    ∷ with_stack (record { depth = 1; link = set once.link 1 1; capacity = once.capacity })
    ∷ with_stack (record { depth = 1; link = once.link; capacity = set once.capacity 63 1 })
    -- node 0 has parent and weight 0
    ∷ with_parents (set tree_a.parent 0 1) ∷ with_weights (set tree_a.weight 0 1)
    -- every node reaches node 0: here nodes 1 and 2 are each other's parent
    ∷ with_parents (set (set tree_a.parent 1 2) 2 1)
    -- a weight and a step's value are at most 2,048,000,000
    ∷ with_weights (set tree_a.weight 1 2048000001) ∷ with_values (set steps_a.value 1 2048000001)
    -- a side holds its node, not its pivot, and no bit of n or above
    ∷ with_sides (set steps_a.side 1 8) ∷ with_sides (set steps_a.side 1 3) ∷ with_sides (set steps_a.side 1 18)
    -- a pivot is below n
    ∷ with_pivots (set steps_a.pivot 1 4)
    -- node 0's step is all 0
    ∷ with_pivots (set steps_a.pivot 0 1) ∷ with_sides (set steps_a.side 0 1) ∷ with_values (set steps_a.value 0 1)
    -- a parent is below n
    ∷ with_parents (set tree_a.parent 1 4)
    ∷ []

-- the lightest edge is the tree's: no other node with its weight, no other weight at its node, no later node as light,
-- not node 0; and with one node both are 0
abbrev pub other_edges : List Plan
other_edges =
    with_lightest 1 6 ∷ with_lightest 2 5 ∷ with_lightest 2 8 ∷ with_lightest 3 6 ∷ with_lightest 1 8 ∷ with_lightest 0 0
    ∷ alone_with 1 0 ∷ alone_with 0 1 ∷ []

unfoldable pub all_sound : List Plan → Bool
all_sound [] = true
all_sound (p ∷ ps) = sound p && all_sound ps

unfoldable pub none_sound : List Plan → Bool
none_sound [] = true
none_sound (p ∷ ps) = not (sound p) && none_sound ps

-- and these break that clause alone
unfoldable pub otherwise_sound : List Plan → Bool
otherwise_sound [] = true
otherwise_sound (p ∷ ps) = sound (plan_of p.network p.tree p.steps p.stack) && otherwise_sound ps

-- every call refuses them with 19
unfoldable pub all_refuse : List Plan → Bool
all_refuse [] = true
all_refuse (p ∷ ps) =
    every (
    eqb (change_of p 0 1).number 19
    ∷ eqb (undo_of p).number 19
    ∷ eqb (number_of (pair_of p 0 1)) 19
    ∷ eqb (number_of (preview_of p 0 1 0 1).answer) 19
    ∷ eqb (flow_number p 0 1 p.network.links) 19
    ∷ eqb (headroom_of p 0 1 0).number 19
    ∷ eqb (write_of p max_file).number 19
    ∷ [])
    && all_refuse ps

pub examples : (all_sound sound_plans ≡ true) × (none_sound broken_plans ≡ true)
unfolding holds all every blank network_fits reaches tree_fits first lightest_of lightest_among steps_fit stack_fits sound
    doubling sound_plans broken_plans all_sound none_sound
examples = (refl, refl)

pub other_edges_lem : (none_sound other_edges ≡ true) × (otherwise_sound other_edges ≡ true) × (all_refuse other_edges ≡ true)
unfolding holds all every blank network_fits reaches tree_fits first lightest_of lightest_among steps_fit stack_fits sound
    doubling none_sound otherwise_sound all_refuse change_number change_of undo_number undo_of pair_number pair_of preview_of
    flow_number headroom_number headroom_of write_number write_of
other_edges_lem = (refl, refl, refl)
