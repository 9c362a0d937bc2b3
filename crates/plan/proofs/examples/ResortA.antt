-- Resort A (docs/SCOPE.md, 10): its file, and its plan as it is opened. Other examples start here.
use Rattle.std.proofs.Common.{ℕ, ◌-◌, ◌≡◌, refl, List, [], ◌∷◌, ◌++◌, length, replicate}
use Rattle.base.specs.Sum.{sum}
use Rattle.min_cut.specs.Cut.{cut_value}
use Rattle.min_cut.specs.FirstWord.{first, least_min_cut}
use Rattle.base.specs.Word.{holds}
use Rattle.network.specs.Limits.{max_nodes, max_links}
use Rattle.network.specs.declared.Network.{Network}
use Rattle.network_file.specs.Number.{read_groups}
use Rattle.network_file.specs.Reading.{taken, link_at, read_link, read_links, read_all, read_file}
use Rattle.cut_tree.specs.Rule.{moved, stepped, rule_by, least_cut, rule}
use Rattle.cut_tree.specs.Path.{lightest_of}
use Rattle.cut_tree.specs.LightestEdge.{lightest_among}
use Rattle.cut_tree.specs.declared.Tree.{Tree}
use Rattle.cut_tree.specs.declared.Steps.{Steps}
use Rattle.plan.specs.Plan.{no_stack, plan_with}
use Rattle.plan.specs.Calls.{open_of}
use Rattle.plan.specs.declared.Plan.{Plan}

abbrev pub resort_a : List ℕ
resort_a =
    0x04 ∷ 0x05 ∷ 0x00 ∷ 0x01 ∷ 0x05 ∷ 0x01 ∷ 0x02 ∷ 0x03 ∷ 0x02 ∷ 0x03 ∷ 0x04 ∷ 0x00 ∷ 0x03 ∷ 0x02 ∷ 0x00 ∷ 0x02 ∷ 0x01
    ∷ []

-- an array of the given length, 0 in its unused places
abbrev pub array : ℕ → List ℕ → List ℕ
array size xs = xs ++ replicate (size - length xs) 0

abbrev pub network_a : Network
network_a =
    record {
      nodes = 4;
      links = 5;
      a = array max_links (0 ∷ 1 ∷ 2 ∷ 0 ∷ 0 ∷ []);
      b = array max_links (1 ∷ 2 ∷ 3 ∷ 3 ∷ 2 ∷ []);
      capacity = array max_links (5 ∷ 3 ∷ 4 ∷ 2 ∷ 1 ∷ []);
    }

abbrev pub tree_a : Tree
tree_a = record { parent = array max_nodes (0 ∷ 0 ∷ 0 ∷ 2 ∷ []); weight = array max_nodes (0 ∷ 8 ∷ 6 ∷ 6 ∷ []) }

abbrev pub steps_a : Steps
steps_a =
    record {
      pivot = array max_nodes (0 ∷ 0 ∷ 0 ∷ 2 ∷ []);
      side = array max_nodes (0 ∷ 2 ∷ 12 ∷ 8 ∷ []);
      value = array max_nodes (0 ∷ 8 ∷ 6 ∷ 6 ∷ []);
    }

-- the edges of 2 and 3 are equally light
abbrev pub plan_a : Plan
plan_a = plan_with network_a tree_a steps_a no_stack (record { node = 2; weight = 6 })

pub opening_A : open_of resort_a ≡ record { number = 0; place = 0; plan = plan_a }
unfolding sum cut_value holds first least_min_cut read_groups taken link_at read_link read_links read_all read_file
    moved stepped rule_by least_cut rule lightest_of lightest_among open_of
opening_A = refl
