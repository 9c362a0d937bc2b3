-- Previews, headroom and writing by worked examples on resort A's plan, and the ends of what a headroom can be. Opening,
-- change, undo and pair have theirs among the readings.
use Rattle.std.proofs.Common.{◌≡◌, refl, ℕ, [], ◌∷◌, ◌++◌, replicate, pos, negsuc}
use Rattle.node_set.specs.Set.{size}
use Rattle.base.specs.Sum.{sum}
use Rattle.min_cut.specs.Cut.{cut_value}
use Rattle.min_cut.specs.FirstWord.{first, least_min_cut}
use Rattle.base.specs.Word.{holds, word}
use Rattle.base.specs.Basics.{all, every, blank, among}
use Rattle.network.specs.Limits.{max_nodes, max_links}
use Rattle.network.specs.Network.{network_fits}
use Rattle.network.specs.declared.Network.{Network}
use Rattle.network_file.specs.Number.{group_bytes}
use Rattle.network_file.specs.Writing.{link_bytes, file_of}
use Rattle.cut_tree.specs.Rule.{moved, stepped, rule_by, least_cut, rule}
use Rattle.cut_tree.specs.Rebuild.{kept_by, kept_or_least_by, rebuilt_by, rebuilt}
use Rattle.cut_tree.specs.Path.{Found}
use Rattle.cut_tree.specs.Path.{reaches, climb, lightest_of, lightest_on, side_of, answer}
use Rattle.cut_tree.specs.LightestEdge.{lightest_among}
use Rattle.text.specs.Text.{digits, text_of}
use Rattle.plan.specs.Plan.{tree_fits, steps_fit, stack_fits, sound, no_stack, plan_of}
use Rattle.plan.specs.Calls.{change_number, altered, change_of, pair_number, pair_of, no_preview, preview_of}
use Rattle.plan.specs.Calls.{fresh, headroom_number, headroom_of, write_number, write_of, written_to}
use Rattle.plan.proofs.examples.ResortA.{resort_a, array, network_a, tree_a, steps_a, plan_a}
use Rattle.plan.specs.declared.Plan.{Plan}

-- link 3 to 4 (P4): all weights are 8 then, and two steps are not kept; taken back, three would not be (P5). The pair
-- (3, 1) has weight 6, node 2 and side 12 on the plan itself
pub previewed : preview_of plan_a 3 4 3 1 ≡ record { answer = Found 8 1 13 3; count = 2 }
unfolding sum cut_value holds first least_min_cut word all every blank network_fits moved stepped rule_by least_cut kept_by
    kept_or_least_by rebuilt_by rebuilt reaches climb among lightest_on lightest_of side_of answer size tree_fits lightest_among
    steps_fit stack_fits sound change_number altered change_of pair_number pair_of preview_of
previewed = refl

-- resort A's plan with its stack full
abbrev pub full_a : Plan
full_a = plan_of network_a tree_a steps_a (record { depth = 64; link = replicate 64 0; capacity = replicate 64 0 })

-- the change's refusals, then the pair's; a full stack refuses too
pub previews_refused : (preview_of plan_a 5 8000001 4 4 ≡ no_preview 10) × (preview_of plan_a 3 8000001 4 4 ≡ no_preview 11)
    × (preview_of full_a 3 4 4 4 ≡ no_preview 12) × (preview_of full_a 3 4 3 1 ≡ no_preview 12)
    × (preview_of plan_a 3 4 4 4 ≡ no_preview 14) × (preview_of plan_a 3 4 3 3 ≡ no_preview 15)
unfolding sum cut_value holds first least_min_cut word all every blank network_fits moved stepped rule_by least_cut kept_by
    kept_or_least_by rebuilt_by rebuilt reaches climb among lightest_on lightest_of side_of answer size tree_fits lightest_among
    steps_fit stack_fits sound change_number altered change_of pair_number pair_of preview_of
previews_refused = (refl, refl, refl, refl, refl, refl)

-- the pair (3, 1) has weight 6: 1.1 megabits are half a megabit too much, "-0.5"
pub short : headroom_of plan_a 3 1 11
    ≡ record { number = 0; value = negsuc 4; text = 32 ∷ 32 ∷ 32 ∷ 32 ∷ 32 ∷ 32 ∷ 32 ∷ 32 ∷ 45 ∷ 48 ∷ 46 ∷ 53 ∷ [] }
unfolding sum holds first word all every blank network_fits reaches climb among lightest_on lightest_of side_of answer
    size digits text_of tree_fits lightest_among steps_fit stack_fits sound headroom_number headroom_of
short = refl

-- the highest demand, and one above it
pub highest : (headroom_of plan_a 0 1 1000000000
    ≡ record {
      number = 0;
      value = negsuc 999999991;
      text = 32 ∷ 45 ∷ 57 ∷ 57 ∷ 57 ∷ 57 ∷ 57 ∷ 57 ∷ 57 ∷ 57 ∷ 46 ∷ 50 ∷ [];
    })
    × (headroom_of plan_a 0 1 1000000001 ≡ record { number = 17; value = pos 0; text = replicate 12 32 })
unfolding sum holds first word all every blank network_fits reaches climb among lightest_on lightest_of side_of answer
    size digits text_of tree_fits lightest_among steps_fit stack_fits sound headroom_number headroom_of
highest = (refl, refl)

-- the highest capacity is taken, and one above it is refused
pub highest_capacity : (change_number plan_a 3 8000000 ≡ 0) × (change_number plan_a 3 8000001 ≡ 11)
unfolding holds first all every blank network_fits reaches lightest_of tree_fits lightest_among steps_fit stack_fits sound
    change_number
highest_capacity = (refl, refl)

-- ---- the ends of what a headroom can be
-- two nodes and m links of the highest capacity between them
abbrev two_nodes : ℕ → Network
two_nodes m =
    record {
      nodes = 2;
      links = m;
      a = replicate max_links 0;
      b = array max_links (replicate m 1);
      capacity = array max_links (replicate m 8000000);
    }

-- a plan of them, with a weight
abbrev weighed : (m weight : ℕ) → Plan
weighed m weight =
    plan_of (two_nodes m)
    (record { parent = replicate max_nodes 0; weight = array max_nodes (0 ∷ weight ∷ []) })
    (record {
      pivot = replicate max_nodes 0;
      side = array max_nodes (0 ∷ 2 ∷ []);
      value = array max_nodes (0 ∷ weight ∷ []);
    })
    no_stack

-- all 256 links: no weight is higher. No link: none is lower
pub weights : (fresh (two_nodes 256) ≡ weighed 256 2048000000) × (fresh (two_nodes 0) ≡ weighed 0 0)
unfolding sum cut_value holds first least_min_cut moved stepped rule_by least_cut rule lightest_of lightest_among
weights = (refl, refl)

-- " 204800000.0", and with the highest demand "104800000.0"; with that and no link "-100000000.0"
pub ends : (headroom_of (weighed 256 2048000000) 0 1 0
    ≡ record {
      number = 0;
      value = pos 2048000000;
      text = 32 ∷ 50 ∷ 48 ∷ 52 ∷ 56 ∷ 48 ∷ 48 ∷ 48 ∷ 48 ∷ 48 ∷ 46 ∷ 48 ∷ [];
    })
    × (headroom_of (weighed 256 2048000000) 1 0 1000000000
    ≡ record {
      number = 0;
      value = pos 1048000000;
      text = 32 ∷ 49 ∷ 48 ∷ 52 ∷ 56 ∷ 48 ∷ 48 ∷ 48 ∷ 48 ∷ 48 ∷ 46 ∷ 48 ∷ [];
    })
    × (headroom_of (weighed 0 0) 0 1 1000000000
    ≡ record {
      number = 0;
      value = negsuc 999999999;
      text = 45 ∷ 49 ∷ 48 ∷ 48 ∷ 48 ∷ 48 ∷ 48 ∷ 48 ∷ 48 ∷ 48 ∷ 46 ∷ 48 ∷ [];
    })
unfolding sum holds first word all every blank network_fits reaches climb among lightest_on lightest_of side_of answer
    size digits text_of tree_fits lightest_among steps_fit stack_fits sound headroom_number headroom_of
ends = (refl, refl, refl)

-- ---- writing
-- written into a buffer of 20, and into one of 16
pub written : (write_of plan_a 20 ≡ record { number = 0; length = 17 })
    × (written_to plan_a (replicate 20 7) ≡ resort_a ++ 7 ∷ 7 ∷ 7 ∷ [])
unfolding holds all every blank network_fits group_bytes link_bytes file_of reaches tree_fits steps_fit stack_fits
    sound first lightest_of lightest_among write_number write_of written_to
written = (refl, refl)

pub too_long : (write_of plan_a 16 ≡ record { number = 18; length = 0 })
    × (written_to plan_a (replicate 16 7) ≡ replicate 16 7)
unfolding holds all every blank network_fits group_bytes link_bytes file_of reaches tree_fits steps_fit stack_fits
    sound first lightest_of lightest_among write_number write_of written_to
too_long = (refl, refl)
