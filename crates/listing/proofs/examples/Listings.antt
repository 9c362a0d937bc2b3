-- Worked examples: resort A's listing as the paper prints it, one node, a refused file, and what a buffer is left
-- with.
use Rattle.std.specs.Prelude.{◌≡◌, refl, List, [], ◌∷◌, ℕ, ◌-◌, ◌^◌, replicate}
use Rattle.node_set.specs.Set.{size}
use Rattle.base.specs.Sum.{sum}
use Rattle.min_cut.specs.Cut.{cut_value}
use Rattle.min_cut.specs.FirstWord.{first, least_min_cut}
use Rattle.base.specs.Word.{holds, word}
use Rattle.base.specs.Basics.{all, every, blank, among}
use Rattle.network.specs.Network.{network_fits}
use Rattle.network_file.specs.Number.{read_groups}
use Rattle.network_file.specs.Reading.{taken, link_at, read_link, read_links, read_all, read_file}
use Rattle.cut_tree.specs.Rule.{moved, stepped, rule_by, least_cut, rule}
use Rattle.cut_tree.specs.Path.{reaches, climb, lightest_of, lightest_on, side_of, answer}
use Rattle.cut_tree.specs.LightestEdge.{lightest_among}
use Rattle.text.specs.Text.{digits}
use Rattle.plan.specs.Plan.{tree_fits, steps_fit, stack_fits, sound}
use Rattle.plan.specs.Calls.{open_of, pair_number, pair_of}
use Rattle.listing.specs.Listing.{decimals_of, tree_line, tree_lines, pair_line, pairs_of, pair_lines, plan_lines}
use Rattle.listing.specs.Listing.{refused_line}
use Rattle.listing.specs.Listing.{listing_of, max_digits, max_line, max_listing, listed_length, listed_to}

abbrev resort_a : List ℕ
resort_a =
    0x04 ∷ 0x05 ∷ 0x00 ∷ 0x01 ∷ 0x05 ∷ 0x01 ∷ 0x02 ∷ 0x03 ∷ 0x02 ∷ 0x03 ∷ 0x04 ∷ 0x00 ∷ 0x03 ∷ 0x02 ∷ 0x00 ∷ 0x02 ∷ 0x01
    ∷ []

-- the lines are the paper's, byte by byte
listing_a : listing_of resort_a ≡
    116 ∷ 114 ∷ 101 ∷ 101 ∷ 32 ∷ 49 ∷ 32 ∷ 48 ∷ 32 ∷ 56 ∷ 10 ∷  -- tree 1 0 8
    116 ∷ 114 ∷ 101 ∷ 101 ∷ 32 ∷ 50 ∷ 32 ∷ 48 ∷ 32 ∷ 54 ∷ 10 ∷  -- tree 2 0 6
    116 ∷ 114 ∷ 101 ∷ 101 ∷ 32 ∷ 51 ∷ 32 ∷ 50 ∷ 32 ∷ 54 ∷ 10 ∷  -- tree 3 2 6
    112 ∷ 97 ∷ 105 ∷ 114 ∷ 32 ∷ 48 ∷ 32 ∷ 49 ∷ 32 ∷ 56 ∷ 32 ∷ 49 ∷ 51 ∷ 10 ∷  -- pair 0 1 8 13
    112 ∷ 97 ∷ 105 ∷ 114 ∷ 32 ∷ 48 ∷ 32 ∷ 50 ∷ 32 ∷ 54 ∷ 32 ∷ 51 ∷ 10 ∷  -- pair 0 2 6 3
    112 ∷ 97 ∷ 105 ∷ 114 ∷ 32 ∷ 48 ∷ 32 ∷ 51 ∷ 32 ∷ 54 ∷ 32 ∷ 51 ∷ 10 ∷  -- pair 0 3 6 3
    112 ∷ 97 ∷ 105 ∷ 114 ∷ 32 ∷ 49 ∷ 32 ∷ 50 ∷ 32 ∷ 54 ∷ 32 ∷ 51 ∷ 10 ∷  -- pair 1 2 6 3
    112 ∷ 97 ∷ 105 ∷ 114 ∷ 32 ∷ 49 ∷ 32 ∷ 51 ∷ 32 ∷ 54 ∷ 32 ∷ 51 ∷ 10 ∷  -- pair 1 3 6 3
    112 ∷ 97 ∷ 105 ∷ 114 ∷ 32 ∷ 50 ∷ 32 ∷ 51 ∷ 32 ∷ 54 ∷ 32 ∷ 55 ∷ 10 ∷  -- pair 2 3 6 7
    []
unfolding sum cut_value holds first least_min_cut word all every blank network_fits read_groups taken link_at
    read_link read_links read_all read_file moved stepped rule_by least_cut rule reaches climb among lightest_on lightest_of
    side_of answer size digits tree_fits steps_fit stack_fits lightest_among sound open_of pair_number pair_of decimals_of
    tree_line tree_lines pair_line pairs_of pair_lines plan_lines listing_of
listing_a = refl

-- one node prints nothing
one_node : listing_of (0x01 ∷ 0x00 ∷ []) ≡ []
unfolding read_groups taken read_links read_all read_file rule_by rule open_of tree_lines pairs_of pair_lines
    plan_lines listing_of
one_node = refl

-- a link from a node to itself: "refused 7 3"
itself : listing_of (0x02 ∷ 0x01 ∷ 0x00 ∷ 0x00 ∷ 0x00 ∷ []) ≡ 114 ∷ 101 ∷ 102 ∷ 117 ∷ 115 ∷ 101 ∷ 100 ∷ 32 ∷ 55 ∷ 32 ∷ 51
    ∷ 10 ∷ []
unfolding read_groups taken link_at read_link read_links read_all read_file open_of digits decimals_of refused_line
    listing_of
itself = refl

-- the limits that are computed
computed : (max_digits ≡ 20) × (max_line ≡ 88) × (max_listing ≡ 183040)
computed = (refl, refl, refl)

-- a short buffer is left as it is
short : (listed_length (0x01 ∷ 0x00 ∷ []) (max_listing - 1) ≡ 2 ^ 64 - 1) × (listed_to [] (replicate 3 7) ≡ replicate 3 7)
unfolding listed_length listed_to
short = (refl, refl)
