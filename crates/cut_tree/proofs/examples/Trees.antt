-- Worked examples of the rule, the rebuild, the pair query and the lightest edge, by evaluation: readings P1 to P6
-- (docs/SCOPE.md, 10), and what they leave open.
use Rattle.std.specs.Prelude.{ℕ, ◌≡◌, refl, true, false, List, [], ◌∷◌, map, take, replicate}
use Rattle.node_set.specs.Set.{size}
use Rattle.base.specs.Sum.{sum}
use Rattle.min_cut.specs.Cut.{cut_value}
use Rattle.min_cut.specs.FirstWord.{first, least_min_cut}
use Rattle.base.specs.Word.{holds, word}
use Rattle.network.specs.Network.{with_capacity, value_of, min_cut_value}
use Rattle.network.specs.declared.Network.{Network}
use Rattle.cut_tree.specs.Rule.{moved, stepped, rule_by, least_cut, rule}
use Rattle.cut_tree.specs.Rebuild.{kept_by, kept_or_least_by, rebuilt_by, not_kept_by, survives, rebuilt, not_kept}
use Rattle.cut_tree.specs.Path.{max_climb, reaches, climb, on_path, lightest_of, lightest_on, side_of, answer}
use Rattle.cut_tree.specs.Path.{query_of}
use Rattle.base.specs.Basics.{among}
use Rattle.cut_tree.specs.LightestEdge.{lightest_edge, lightest_among}
use Rattle.cut_tree.specs.Definition1.{tree_net}
use Rattle.cut_tree.specs.declared.Built.{Built}
use Rattle.cut_tree.specs.declared.Edge.{Edge}
use Rattle.cut_tree.specs.declared.Tree.{Tree}
use Rattle.cut_tree.specs.Path.{Refused, Found}

-- ---- resort A
abbrev resort_a : Network
resort_a =
    record {
      nodes = 4;
      links = 5;
      a = 0 ∷ 1 ∷ 2 ∷ 0 ∷ 0 ∷ replicate 251 0;
      b = 1 ∷ 2 ∷ 3 ∷ 3 ∷ 2 ∷ replicate 251 0;
      capacity = 5 ∷ 3 ∷ 4 ∷ 2 ∷ 1 ∷ replicate 251 0;
    }

-- parents and weights of n nodes, their pivots and sides, and the count
abbrev Shown : Type 0
Shown = (List ℕ) × (List ℕ) × (List ℕ) × (List ℕ) × ℕ

abbrev shown : ℕ → Built → Shown
shown n b =
    (take n b.tree.parent, take n b.tree.weight, take n b.steps.pivot, take n b.steps.side, b.count)

-- P1: parents 0, 0, 2 and weights 8, 6, 6. P2: the least sides {1}, {2, 3}, {3}
first_build : shown 4 (rule resort_a) ≡ (
  0 ∷ 0 ∷ 0 ∷ 2 ∷ [],
  0 ∷ 8 ∷ 6 ∷ 6 ∷ [],
  0 ∷ 0 ∷ 0 ∷ 2 ∷ [],
  0 ∷ 2 ∷ 12 ∷ 8 ∷ [],
  3,
)
unfolding rule rule_by stepped moved least_cut least_min_cut first holds cut_value sum
first_build = refl

-- P3: link 1 to 1
fall : shown 4 (rebuilt resort_a (rule resort_a).steps 1 1) ≡ (
  0 ∷ 0 ∷ 0 ∷ 2 ∷ [],
  0 ∷ 6 ∷ 4 ∷ 6 ∷ [],
  0 ∷ 0 ∷ 0 ∷ 2 ∷ [],
  0 ∷ 2 ∷ 12 ∷ 8 ∷ [],
  1,
)
unfolding rebuilt rebuilt_by kept_or_least_by kept_by rule rule_by stepped moved least_cut least_min_cut first holds cut_value sum
fall = refl

-- P4: instead link 3 to 4; P5: that taken back, where the pivot of step 3 has moved
abbrev raised : Network
raised = with_capacity resort_a 3 4

rise : shown 4 (rebuilt resort_a (rule resort_a).steps 3 4) ≡ (
  0 ∷ 0 ∷ 0 ∷ 0 ∷ [],
  0 ∷ 8 ∷ 8 ∷ 8 ∷ [],
  0 ∷ 0 ∷ 0 ∷ 0 ∷ [],
  0 ∷ 2 ∷ 4 ∷ 8 ∷ [],
  2,
)
unfolding rebuilt rebuilt_by kept_or_least_by kept_by rule rule_by stepped moved least_cut least_min_cut first holds cut_value sum
rise = refl

undone : shown 4 (rebuilt raised (rebuilt resort_a (rule resort_a).steps 3 4).steps 3 2)
    ≡ (0 ∷ 0 ∷ 0 ∷ 2 ∷ [], 0 ∷ 8 ∷ 6 ∷ 6 ∷ [], 0 ∷ 0 ∷ 0 ∷ 2 ∷ [], 0 ∷ 2 ∷ 12 ∷ 8 ∷ [], 3)
unfolding rebuilt rebuilt_by kept_or_least_by kept_by rule rule_by stepped moved least_cut least_min_cut first holds cut_value sum
undone = refl

-- the counts, by the rule before and after
counts : (not_kept resort_a 1 1 ≡ 1) × (not_kept resort_a 3 4 ≡ 2) × (not_kept raised 3 2 ≡ 3)
unfolding not_kept not_kept_by kept_by rule rule_by stepped moved least_cut least_min_cut first holds cut_value sum
counts = (refl, refl, refl)

-- the path between 3 and 1, of the edges 0 to 4: those of 1, 2 and 3
path : map (on_path (rule resort_a).tree.parent 3 1) (0 ∷ 1 ∷ 2 ∷ 3 ∷ 4 ∷ [])
    ≡ false ∷ true ∷ true ∷ true ∷ false ∷ []
unfolding among climb rule rule_by stepped moved least_cut least_min_cut first holds cut_value sum
path = refl

-- P6; and from the other end: the edges of 3 and of 2 have weight 6 both, and the lower number counts
pairs : (answer (rule resort_a).tree 4 3 1 ≡ Found 6 2 12 2) × (answer (rule resort_a).tree 4 1 3 ≡ Found 6 2 3 2)
unfolding answer side_of lightest_on lightest_of among climb word rule rule_by stepped moved least_cut least_min_cut
    first holds cut_value sum size
pairs = (refl, refl)

-- ---- ties: 4 below 3 below 1 below 2 below 0. Of equals the lowest number, also inside the path, but first the
-- weight; a node and itself have no edge between them
abbrev row : List ℕ → Tree
row weights = record { parent = 0 ∷ 2 ∷ 0 ∷ 1 ∷ 3 ∷ []; weight = weights }

ties : (lightest_on (row (0 ∷ 5 ∷ 5 ∷ 5 ∷ 5 ∷ [])) 4 0 ≡ 1) × (lightest_on (row (0 ∷ 5 ∷ 5 ∷ 5 ∷ 5 ∷ [])) 0 4 ≡ 1)
    × (lightest_on (row (0 ∷ 5 ∷ 6 ∷ 4 ∷ 4 ∷ [])) 4 0 ≡ 3) × (lightest_on (row (0 ∷ 5 ∷ 4 ∷ 4 ∷ 5 ∷ [])) 4 1 ≡ 3)
    × (lightest_on (row (0 ∷ 5 ∷ 5 ∷ 5 ∷ 5 ∷ [])) 4 4 ≡ 0)
unfolding lightest_on lightest_of first among climb
ties = (refl, refl, refl, refl, refl)

-- ---- the lightest edge of a tree
abbrev edge : (node weight : ℕ) → Edge
edge node weight = record { node = node; weight = weight }

-- of resort A, where the edges of 2 and 3 have weight 6 both; of P3 and of P4
lightest : (lightest_edge 4 (rule resort_a).tree ≡ edge 2 6)
    × (lightest_edge 4 (rebuilt resort_a (rule resort_a).steps 1 1).tree ≡ edge 2 4)
    × (lightest_edge 4 (rebuilt resort_a (rule resort_a).steps 3 4).tree ≡ edge 1 8)
unfolding lightest_among lightest_of rebuilt rebuilt_by kept_or_least_by kept_by rule rule_by stepped moved least_cut least_min_cut
    first holds cut_value sum
lightest = (refl, refl, refl)

-- the lowest number among equals, wherever it stands in the tree, but first the weight; node 0 and nodes from n on have
-- no edge, and a single node has none, whatever stands at its place
lightest_ties : (lightest_edge 5 (row (0 ∷ 5 ∷ 4 ∷ 4 ∷ 5 ∷ [])) ≡ edge 2 4)
    × (lightest_edge 5 (row (0 ∷ 5 ∷ 5 ∷ 5 ∷ 5 ∷ [])) ≡ edge 1 5)
    × (lightest_edge 5 (row (0 ∷ 5 ∷ 6 ∷ 6 ∷ 4 ∷ [])) ≡ edge 4 4)
    × (lightest_edge 4 (row (0 ∷ 5 ∷ 6 ∷ 6 ∷ 4 ∷ [])) ≡ edge 1 5) × (lightest_edge 2 (row (0 ∷ 0 ∷ [])) ≡ edge 1 0)
    × (lightest_edge 1 (row (7 ∷ 3 ∷ [])) ≡ edge 0 0)
unfolding lightest_among lightest_of first
lightest_ties = (refl, refl, refl, refl, refl, refl)

-- ---- 14 before 15
refusals : (query_of (rule resort_a).tree 4 4 4 ≡ Refused 14) × (query_of (rule resort_a).tree 4 0 4 ≡ Refused 14)
    × (query_of (rule resort_a).tree 4 2 2 ≡ Refused 15)
unfolding query_of
refusals = (refl, refl, refl)

-- the tree as a network: {1, 3} crosses the edges of 1 and 3, {3} that of 3
tree_values : (cut_value (tree_net 4 (rule resort_a).tree) (holds 10) ≡ 14)
    × (cut_value (tree_net 4 (rule resort_a).tree) (holds 8) ≡ 6)
unfolding rule rule_by stepped moved least_cut least_min_cut first holds cut_value sum
tree_values = (refl, refl)

-- ---- a ring of four nodes: {1, 2} is a minimum cut of 0 and 2, and not one of the tree
abbrev ring : Network
ring = record {
  nodes = 4;
  links = 4;
  a = 0 ∷ 1 ∷ 2 ∷ 3 ∷ replicate 252 0;
  b = 1 ∷ 2 ∷ 3 ∷ 0 ∷ replicate 252 0;
  capacity = 1 ∷ 1 ∷ 1 ∷ 1 ∷ replicate 252 0;
}

not_conversely : (min_cut_value ring 2 0 ≡ 2) × (value_of ring (holds 6) ≡ 2)
    × (cut_value (tree_net 4 (rule ring).tree) (holds 6) ≡ 4)
unfolding rule rule_by stepped moved least_cut least_min_cut first holds cut_value sum
not_conversely = (refl, refl, refl)

-- ---- s changes places with its pivot: links (1, 2, 4) and (2, 0, 1)
abbrev turned : Network
turned = record {
  nodes = 3;
  links = 2;
  a = 1 ∷ 2 ∷ replicate 254 0;
  b = 2 ∷ 0 ∷ replicate 254 0;
  capacity = 4 ∷ 1 ∷ replicate 254 0;
}

exchange : shown 3 (rule turned) ≡ (0 ∷ 2 ∷ 0 ∷ [], 0 ∷ 4 ∷ 1 ∷ [], 0 ∷ 0 ∷ 1 ∷ [], 0 ∷ 6 ∷ 5 ∷ [], 2)
unfolding rule rule_by stepped moved least_cut least_min_cut first holds cut_value sum
exchange = refl

-- ---- a node below s moves to s: in step 2 node 1 does. Links (1, 2, 1) and (2, 0, 3)
abbrev chained : Network
chained = record {
  nodes = 3;
  links = 2;
  a = 1 ∷ 2 ∷ replicate 254 0;
  b = 2 ∷ 0 ∷ replicate 254 0;
  capacity = 1 ∷ 3 ∷ replicate 254 0;
}

lower : shown 3 (rule chained) ≡ (0 ∷ 2 ∷ 0 ∷ [], 0 ∷ 1 ∷ 3 ∷ [], 0 ∷ 0 ∷ 0 ∷ [], 0 ∷ 2 ∷ 6 ∷ [], 2)
unfolding rule rule_by stepped moved least_cut least_min_cut first holds cut_value sum
lower = refl

-- ---- two unconnected parts: an edge of weight 0
abbrev parted : Network
parted = record {
  nodes = 4;
  links = 2;
  a = 0 ∷ 2 ∷ replicate 254 0;
  b = 1 ∷ 3 ∷ replicate 254 0;
  capacity = 3 ∷ 5 ∷ replicate 254 0;
}

zero_weight : shown 4 (rule parted) ≡ (
  0 ∷ 0 ∷ 0 ∷ 2 ∷ [],
  0 ∷ 3 ∷ 0 ∷ 5 ∷ [],
  0 ∷ 0 ∷ 0 ∷ 2 ∷ [],
  0 ∷ 2 ∷ 12 ∷ 8 ∷ [],
  3,
)
unfolding rule rule_by stepped moved least_cut least_min_cut first holds cut_value sum
zero_weight = refl

zero_pair : answer (rule parted).tree 4 3 1 ≡ Found 0 2 12 2
unfolding answer side_of lightest_on lightest_of among climb word rule rule_by stepped moved least_cut least_min_cut
    first holds cut_value sum size
zero_pair = refl

-- ---- the keeping test, for a cut of value 4: equal; up; down, by as much as its value and by more
keeping : (survives true 4 7 7 ≡ true) × (survives false 4 7 7 ≡ true) × (survives true 4 7 8 ≡ false)
    × (survives false 4 7 8 ≡ true)
    × (survives true 4 7 3 ≡ true) × (survives true 4 7 2 ≡ false) × (survives false 4 7 6 ≡ false)
keeping = (refl, refl, refl, refl, refl, refl, refl)

-- ---- climbs
reaching : (reaches (0 ∷ 0 ∷ 1 ∷ 2 ∷ []) 3 3 ≡ true) × (reaches (0 ∷ 0 ∷ 1 ∷ 2 ∷ []) 2 3 ≡ false)
unfolding reaches
reaching = (refl, refl)

-- all other nodes may stand on the way: 63
most : max_climb ≡ 63
most = refl
