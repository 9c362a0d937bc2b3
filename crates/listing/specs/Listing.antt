-- The program `pairs` (docs/SCOPE.md, 6): what is printed for a file.
use Rattle.std.specs.Prelude.{Option, Some, None, ℕ, zero, suc, ◌+◌, ◌-◌, ◌*◌}
use Rattle.std.specs.Prelude.{◌/◌, ◌^◌, List, [], ◌∷◌, ◌++◌, length, ltb}
use Rattle.std.proofs.lemmas.List.Edits.{sets}
use Rattle.base.specs.Basics.{at, pick}
use Rattle.base.specs.Checks.{accepted}
use Rattle.network.specs.Limits.{max_nodes}
use Rattle.cut_tree.specs.Path.{weight_of, side_in}
use Rattle.cut_tree.specs.declared.Tree.{Tree}
use Rattle.text.specs.Text.{decimal, digits_of}
use Rattle.plan.specs.Calls.{open_of, pair_of}
use Rattle.plan.specs.declared.Plan.{Plan}

-- "tree", "pair", "refused"
abbrev pub tree_word : List ℕ
tree_word = 116 ∷ 114 ∷ 101 ∷ 101 ∷ []

abbrev pub pair_word : List ℕ
pair_word = 112 ∷ 97 ∷ 105 ∷ 114 ∷ []

abbrev pub refused_word : List ℕ
refused_word = 114 ∷ 101 ∷ 102 ∷ 117 ∷ 115 ∷ 101 ∷ 100 ∷ []

-- a line: a word and numbers, one space before each number, a line feed after the last
unfoldable pub decimals_of : List ℕ → List ℕ
decimals_of [] = 10 ∷ []
decimals_of (n ∷ ns) = 32 ∷ (decimal n ++ decimals_of ns)

abbrev pub line_of : List ℕ → List ℕ → List ℕ
line_of word ns = word ++ decimals_of ns

-- node, parent, weight
unfoldable pub tree_line : Tree → ℕ → List ℕ
tree_line tree i = line_of tree_word (i ∷ at tree.parent i ∷ at tree.weight i ∷ [])

-- nodes 1 to k
unfoldable pub tree_lines : Tree → ℕ → List ℕ
tree_lines tree zero = []
tree_lines tree (suc k) = tree_lines tree k ++ tree_line tree (suc k)

-- s, t, weight, side
unfoldable pub pair_line : Plan → ℕ → ℕ → List ℕ
pair_line p s t = let r = pair_of p s t in line_of pair_word (s ∷ t ∷ weight_of r ∷ side_in r ∷ [])

-- s with s + 1, .., s + k
unfoldable pub pairs_of : Plan → ℕ → ℕ → List ℕ
pairs_of p s zero = []
pairs_of p s (suc k) = pairs_of p s k ++ pair_line p s (s + suc k)

-- the first k nodes, each with all above it
unfoldable pub pair_lines : Plan → ℕ → List ℕ
pair_lines p zero = []
pair_lines p (suc k) = pair_lines p k ++ pairs_of p k (p.network.nodes - suc k)

unfoldable pub plan_lines : Plan → List ℕ
plan_lines p = tree_lines p.tree (p.network.nodes - 1) ++ pair_lines p p.network.nodes

-- number and place
unfoldable pub refused_line : ℕ → ℕ → List ℕ
refused_line number place = line_of refused_word (number ∷ place ∷ [])

unfoldable pub listing_of : List ℕ → List ℕ
listing_of file = let o = open_of file in accepted o.number (plan_lines o.plan) (λ e. refused_line e o.place)

-- ---- written into a lent buffer
-- digits of the largest number of 64 bits
abbrev pub max_digits : ℕ
max_digits = digits_of 20 (2 ^ 64 - 1)

-- a line: a word and at most four numbers, a space before each; a node has fewer digits, which leaves room for the
-- line feed
abbrev pub max_line : ℕ
max_line = length pair_word + 4 * (1 + max_digits)

-- a buffer of this length holds every listing, 183,040: a line for each node, and for every two
abbrev pub max_listing : ℕ
max_listing = max_line * (max_nodes + max_nodes * (max_nodes - 1) / 2)

-- what is answered of a shorter buffer
abbrev pub not_listed : ℕ
not_listed = 2 ^ 64 - 1

-- the answer, by the buffer's length: how many bytes were written; none of a shorter buffer
unfoldable pub listed : List ℕ → ℕ → Option ℕ
listed file size = pick (ltb size max_listing) None (Some (length (listing_of file)))

-- the same for C, as a number
unfoldable pub listed_length : List ℕ → ℕ → ℕ
listed_length file size = pick (ltb size max_listing) not_listed (length (listing_of file))

-- the buffer behind it: the listing in its first bytes, the rest as it was
unfoldable pub listed_to : List ℕ → List ℕ → List ℕ
listed_to file buffer = pick (ltb (length buffer) max_listing) buffer (sets buffer 0 (listing_of file))
