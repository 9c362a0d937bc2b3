-- The tests of soundness as the code makes them: of the numbers that stand at one place, and of one array.
use Rattle.std.specs.Prelude.{ℕ, ◌^◌, Bool, not, ◌&&◌, ◌||◌, List, [], ◌∷◌, ltb, leb, eqb}
use Rattle.base.specs.Word.{holds}
use Rattle.base.specs.Basics.{pick, at, all, every, blank_from}
use Rattle.network.specs.Limits.{max_capacity, max_value}
use Rattle.cut_tree.specs.Path.{max_climb, reaches}
use Rattle.cut_tree.specs.LightestEdge.{no_edge, lightest_among, equal_edges}
use Rattle.cut_tree.specs.declared.Edge.{Edge}
use Rattle.cut_tree.specs.declared.Tree.{Tree}

-- every parent is one of n nodes
abbrev pub parents_within : ℕ → List ℕ → Bool
parents_within n parent = all n (λ i. ltb (at parent i) n)

-- no weight is above the limit of values
abbrev pub weights_within : ℕ → List ℕ → Bool
weights_within n weight = all n (λ i. leb (at weight i) max_value)

-- an edge of one of n nodes with its weight; with one node, none
unfoldable pub is_edge : ℕ → List ℕ → Edge → Bool
is_edge n weight edge =
    let v = edge.node in
    let own = every (not (eqb v 0) ∷ ltb v n ∷ eqb (at weight v) edge.weight ∷ []) in
    pick (ltb 1 n) own (equal_edges edge no_edge)

-- node i's weight beside the lightest edge: within the limit, not lighter, and heavier or no lower number
unfoldable pub weight_within : Edge → (i weight : ℕ) → Bool
weight_within lightest i weight =
    every (
    leb weight max_value
    ∷ leb lightest.weight weight
    ∷ (ltb lightest.weight weight || leb lightest.node i)
    ∷ [])

-- both tests of the weights: their limit, and the lightest edge
unfoldable pub weights_fit : ℕ → List ℕ → Edge → Bool
weights_fit n weight lightest = weights_within n weight && equal_edges lightest (lightest_among n weight)

-- every node reaches node 0
abbrev pub rooted : ℕ → List ℕ → Bool
rooted n parent = all n (reaches parent max_climb)

-- the tests of a tree and of its lightest edge, as the code goes
unfoldable pub tree_with_edge : ℕ → Tree → Edge → Bool
tree_with_edge n tree lightest =
    every (
    eqb (at tree.parent 0) 0
    ∷ eqb (at tree.weight 0) 0
    ∷ parents_within n tree.parent
    ∷ weights_fit n tree.weight lightest
    ∷ rooted n tree.parent
    ∷ blank_from n tree.parent
    ∷ blank_from n tree.weight
    ∷ [])

-- node 0's step is all 0
abbrev pub root_step_within : (pivot side value : ℕ) → Bool
root_step_within pivot side value = every (eqb pivot 0 ∷ eqb side 0 ∷ eqb value 0 ∷ [])

-- the step of another node
abbrev pub step_within : (n s pivot side value : ℕ) → Bool
step_within n s pivot side value =
    every (ltb pivot n ∷ ltb side (2 ^ n) ∷ leb value max_value ∷ holds side s ∷ not (holds side pivot) ∷ [])

-- an entry of the stack, in a network of m links
abbrev pub entry_within : (m link capacity : ℕ) → Bool
entry_within m link capacity = every (ltb link m ∷ leb capacity max_capacity ∷ [])
