-- "The lightest edge with the lowest house number, the house below the edge, is shown from both ends": the path, its
-- edge, and what a pair call for (s, t) answers by it. An edge is named by the node below it.
use Rattle.std.specs.Prelude.{ℕ, zero, suc, ◌-◌, ◌≤◌, ◌<◌, ◌≡◌, Bool, true, not, ◌&&◌, List, [], ◌∷◌, ltb, eqb}
use Rattle.base.specs.Word.{word}
use Rattle.min_cut.specs.FirstWord.{first}
use Rattle.node_set.specs.Set.{size}
use Rattle.network.specs.Refusals.{no_such_node, same_node}
use Rattle.base.specs.Basics.{pick, at, differ, among}
use Rattle.base.specs.Checks.{Row, row, chain, accepted}
use Rattle.network.specs.Limits.{max_nodes}
use Rattle.cut_tree.specs.declared.Tree.{Tree}

-- what a pair call finds: a refusal number; or the lightest tree edge between s and t by its weight and the node below
-- it, the side that holds s once that edge is cut, and how many nodes that side has
pub data PairAnswer : Type 0 where
  Refused : (number : ℕ) → PairAnswer
  Found : (weight node side size : ℕ) → PairAnswer

-- the most parents on the way to node 0: all other nodes
abbrev pub max_climb : ℕ
max_climb = max_nodes - 1

-- node i reaches node 0 by at most this many parents
unfoldable pub reaches : List ℕ → ℕ → ℕ → Bool
reaches parent zero i = eqb i 0
reaches parent (suc left) i = let further = reaches parent left (at parent i) in pick (eqb i 0) true further

-- n nodes that are a tree below node 0, as those of a sound plan: each reaches it, and parents are among them
pub record Climbs (n : ℕ) (parent : List ℕ) : Type 0 where
  pub small : n ≤ max_nodes
  pub stays : (i : ℕ) → i < n → at parent i < n
  pub rooted : (i : ℕ) → i < n → reaches parent max_climb i ≡ true

-- the nodes from i up to node 0, without it
unfoldable pub climb : List ℕ → ℕ → ℕ → List ℕ
climb parent zero i = []
climb parent (suc left) i = let further = climb parent left (at parent i) in pick (eqb i 0) [] (i ∷ further)

-- the subtree of v: the nodes that reach node 0 through v
abbrev pub under : List ℕ → ℕ → ℕ → Bool
under parent v i = among v (climb parent max_climb i)

-- the tree path between s and t, as the set of its edges: v's edge is on it where exactly one of s and t reaches node 0
-- through v. It is a set: it has no order, and is the same from both ends.
abbrev pub on_path : List ℕ → (s t : ℕ) → ℕ → Bool
on_path parent s t v = differ (under parent v s) (under parent v t)

-- the lightest of a set of edges, the lowest number among equals; 0, which names no edge, where the set is empty
unfoldable pub lightest_of : List ℕ → (ℕ → Bool) → ℕ
lightest_of weight edges = first edges (at weight) max_nodes

-- the edge that a pair call shows
unfoldable pub lightest_on : Tree → ℕ → ℕ → ℕ
lightest_on tree s t = lightest_of tree.weight (on_path tree.parent s t)

-- the side that holds s once the edge of v is cut: the nodes that lie as s does
unfoldable pub side_of : List ℕ → ℕ → ℕ → ℕ → ℕ
side_of parent n v s = word n (λ i. not (differ (under parent v i) (under parent v s)))

unfoldable pub answer : Tree → ℕ → ℕ → ℕ → PairAnswer
answer tree n s t =
    let v = lightest_on tree s t in
    let side = side_of tree.parent n v s in
    Found (at tree.weight v) v side (size n side)

-- the checks of a pair, and those that come after them
abbrev pub pair_rows : ℕ → ℕ → ℕ → List Row → List Row
pair_rows n s t later = row (not (ltb s n && ltb t n)) no_such_node ∷ row (eqb s t) same_node ∷ later

abbrev pub query_number : (n s t : ℕ) → ℕ
query_number n s t = chain (pair_rows n s t [])

unfoldable pub query_of : Tree → ℕ → ℕ → ℕ → PairAnswer
query_of tree n s t = accepted (query_number n s t) (answer tree n s t) Refused

-- the paper's number and values for each case of an answer
abbrev pub number_of : PairAnswer → ℕ
number_of (Refused e) = e
number_of (Found w v side size) = 0

abbrev pub weight_of : PairAnswer → ℕ
weight_of (Refused e) = 0
weight_of (Found w v side size) = w

abbrev pub node_of : PairAnswer → ℕ
node_of (Refused e) = 0
node_of (Found w v side size) = v

abbrev pub side_in : PairAnswer → ℕ
side_in (Refused e) = 0
side_in (Found w v side size) = side

abbrev pub size_of : PairAnswer → ℕ
size_of (Refused e) = 0
size_of (Found w v side size) = size
