-- Each definition at small networks: what the limits let through and what not, cuts and flows of resort
-- A, the numbers of refusals.
use Rattle.std.specs.Prelude.{◌≡◌, refl, true, false, List, [], ◌∷◌, ◌++◌, ℕ, ◌-◌, ℤ, pos, neg_ℤ, length, set, replicate}
use Rattle.std.specs.Prelude.{Result, Ok, Err}
use Rattle.base.specs.Sum.{sum}
use Rattle.min_cut.specs.Cut.{cut_value}
use Rattle.min_cut.specs.FirstWord.{first, least_min_cut}
use Rattle.base.specs.Word.{holds}
use Rattle.min_cut.specs.Lawful.{outflow, total}
use Rattle.min_cut.specs.code.Arcs.{tail}
use Rattle.base.specs.Basics.{all, every, blank}
use Rattle.network.specs.Limits.{max_nodes, max_links, max_arcs, max_capacity, max_groups, max_value}
use Rattle.network.specs.Network.{network_fits, no_network, with_capacity, graph, crosses_link, value_of, least_side}
use Rattle.network.specs.Network.{min_cut_value, total_of}
use Rattle.network.specs.code.Links.{link_of}
use Rattle.network.specs.code.Incidence.{arcs_from, walk}
use Rattle.network.specs.Refusals.{refusal_number, outcome_number}
use Rattle.network.specs.declared.Network.{Network}
use Rattle.network.specs.declared.refusals.Refusal.{Refusal}
use Rattle.network.specs.declared.refusals.Refusal.TheVariants.{EndsEarly, NumberTooLong, ZeroGroup, BadNodeCount, TooManyLinks}
use Rattle.network.specs.declared.refusals.Refusal.TheVariants.{EndNotANode, EqualEnds, LinkTooLarge, BytesFollow, NoSuchLink}
use Rattle.network.specs.declared.refusals.Refusal.TheVariants.{CapacityTooLarge, StackFull, NothingToUndo, NoSuchNode, SameNode}
use Rattle.network.specs.declared.refusals.Refusal.TheVariants.{FlowLength, DemandTooLarge, BufferTooShort, NotSound, TooManyReadings}

-- ---- the limits
-- a network of n nodes by its links' ends and capacities
abbrev network : ℕ → (a b capacity : List ℕ) → Network
network n a b capacity =
    record {
      nodes = n;
      links = length a;
      a = a ++ replicate (max_links - length a) 0;
      b = b ++ replicate (max_links - length b) 0;
      capacity = capacity ++ replicate (max_links - length capacity) 0;
    }

-- resort A (docs/SCOPE.md, 10): the links (0, 1, 5), (1, 2, 3), (2, 3, 4), (0, 3, 2), (0, 2, 1)
abbrev pub resort_a : Network
resort_a = network 4 (0 ∷ 1 ∷ 2 ∷ 0 ∷ 0 ∷ []) (1 ∷ 2 ∷ 3 ∷ 3 ∷ 2 ∷ []) (5 ∷ 3 ∷ 4 ∷ 2 ∷ 1 ∷ [])

resort_a_fits : network_fits resort_a ≡ true
unfolding network_fits every all blank
resort_a_fits = refl

-- its first link and its last
first_and_last : (link_of resort_a 0 ≡ record { a = 0; b = 1; capacity = 5 })
    × (link_of resort_a 4 ≡ record { a = 0; b = 2; capacity = 1 })
first_and_last = (refl, refl)

-- n nodes, and m links that all join nodes 0 and 63 and have the highest capacity
abbrev alike : (n m : ℕ) → Network
alike n m = network n (replicate m 0) (replicate m 63) (replicate m 8000000)

-- one node and no link; two links between the same nodes, one of capacity 0; the largest number in every place
smallest_and_largest : (network_fits (network 1 [] [] []) ≡ true)
    × (network_fits (network 2 (0 ∷ 1 ∷ []) (1 ∷ 0 ∷ []) (9 ∷ 0 ∷ [])) ≡ true) × (network_fits (alike 64 256) ≡ true)
unfolding network_fits every all blank
smallest_and_largest = (refl, refl, refl)

counts_broken : (network_fits (network 0 [] [] []) ≡ false) × (network_fits (alike 65 256) ≡ false)
    × (network_fits (alike 64 257) ≡ false)
unfolding network_fits every all blank
counts_broken = (refl, refl, refl)

-- each of a link's tests alone, the last of three links
link_broken : (network_fits (network 4 (0 ∷ 1 ∷ 4 ∷ []) (1 ∷ 2 ∷ 3 ∷ []) (5 ∷ 3 ∷ 4 ∷ [])) ≡ false)
    × (network_fits (network 4 (0 ∷ 1 ∷ 2 ∷ []) (1 ∷ 2 ∷ 4 ∷ []) (5 ∷ 3 ∷ 4 ∷ [])) ≡ false)
    × (network_fits (network 4 (0 ∷ 1 ∷ 3 ∷ []) (1 ∷ 2 ∷ 3 ∷ []) (5 ∷ 3 ∷ 4 ∷ [])) ≡ false)
    × (network_fits (network 4 (0 ∷ 1 ∷ 2 ∷ []) (1 ∷ 2 ∷ 3 ∷ []) (5 ∷ 3 ∷ 8000001 ∷ [])) ≡ false)
    × (network_fits (network 4 (0 ∷ 1 ∷ 2 ∷ []) (1 ∷ 2 ∷ 3 ∷ []) (5 ∷ 3 ∷ 8000000 ∷ [])) ≡ true)
unfolding network_fits every all blank
link_broken = (refl, refl, refl, refl, refl)

-- an unused place that is not 0: the first one, and the last
unused_broken : (network_fits (network 4 (0 ∷ []) (1 ∷ []) (5 ∷ [])) ≡ true)
    × (network_fits (record {
      nodes = 4;
      links = 1;
      a = set (replicate max_links 0) 1 2;
      b = set (replicate max_links 0) 0 1;
      capacity = replicate max_links 0;
    }) ≡ false)
    × (network_fits (record {
      nodes = 4;
      links = 1;
      a = replicate max_links 0;
      b = set (set (replicate max_links 0) 0 1) 255 2;
      capacity = replicate max_links 0;
    }) ≡ false)
    × (network_fits (record {
      nodes = 4;
      links = 1;
      a = replicate max_links 0;
      b = set (replicate max_links 0) 0 1;
      capacity = set (replicate max_links 0) 1 1;
    }) ≡ false)
unfolding network_fits every all blank
unused_broken = (refl, refl, refl, refl)

-- what stands beside a refusal is no network
nothing : network_fits no_network ≡ false
unfolding network_fits every
nothing = refl

-- ---- cuts of resort A
-- the side {1} crosses links 0 and 1 only
crossed : (crosses_link resort_a (holds 2) 0 ≡ true) × (crosses_link resort_a (holds 2) 1 ≡ true)
    × (crosses_link resort_a (holds 2) 2 ≡ false) × (crosses_link resort_a (holds 2) 4 ≡ false)
unfolding holds
crossed = (refl, refl, refl, refl)

-- {1}, {1, 2, 3} and {2, 3}
values : (value_of resort_a (holds 2) ≡ 8) × (value_of resort_a (holds 14) ≡ 8) × (value_of resort_a (holds 12) ≡ 6)
unfolding cut_value sum holds
values = (refl, refl, refl)

-- {1}, {2, 3} and {3}, which the paper names
least_sides : (least_side resort_a 1 0 ≡ 2) × (least_side resort_a 2 0 ≡ 12) × (least_side resort_a 3 2 ≡ 8)
unfolding least_min_cut first cut_value sum holds
least_sides = (refl, refl, refl)

min_cut_values : (min_cut_value resort_a 1 0 ≡ 8) × (min_cut_value resort_a 2 0 ≡ 6) × (min_cut_value resort_a 3 2 ≡ 6)
    × (min_cut_value (with_capacity resort_a 1 1) 2 0 ≡ 4)
unfolding least_min_cut first cut_value sum holds
min_cut_values = (refl, refl, refl, refl)

-- 800 gigabits, in a number of four groups; and the limits that are computed
widest : (max_capacity ≡ 8000000) × (max_groups ≡ 4)
widest = (refl, refl)

computed : (max_arcs ≡ 512) × (max_value ≡ 2048000000)
computed = (refl, refl)

-- the side {0} of a full network: no value is higher
highest : value_of (alike max_nodes max_links) (holds 1) ≡ max_value
unfolding cut_value sum holds
highest = refl

-- ---- a flow of resort A from 0 to 1: 5 straight, 1 by node 2, 2 by nodes 3 and 2
abbrev sent : List ℤ
sent = pos 5 ∷ neg_ℤ (pos 3) ∷ neg_ℤ (pos 2) ∷ pos 2 ∷ pos 1 ∷ []

totals : (total_of resort_a sent 0 ≡ pos 8) × (total_of resort_a sent 1 ≡ neg_ℤ (pos 8)) × (total_of resort_a sent 2 ≡ pos 0)
unfolding total outflow
totals = (refl, refl, refl)

-- ---- arcs of resort A: links 0, 3 and 4 from node 0, links 1 and 4 back and 2 from node 2
arcs : (arcs_from (graph resort_a) 0 10 ≡ 8 ∷ 6 ∷ 0 ∷ []) × (arcs_from (graph resort_a) 2 10 ≡ 9 ∷ 4 ∷ 3 ∷ [])
unfolding arcs_from tail
arcs = (refl, refl)

-- next at 8 is 7, at 6 is 1, at 0 is 0
walked : walk 10 (0 ∷ 0 ∷ 0 ∷ 0 ∷ 0 ∷ 0 ∷ 1 ∷ 0 ∷ 7 ∷ 0 ∷ []) 9 ≡ 8 ∷ 6 ∷ 0 ∷ []
unfolding walk
walked = refl

-- ---- the table's numbers, 1 to 20: of a file, of calls on a plan, of a gate's record
of_files : (refusal_number EndsEarly ≡ 1) × (refusal_number NumberTooLong ≡ 2) × (refusal_number ZeroGroup ≡ 3)
    × (refusal_number BadNodeCount ≡ 4) × (refusal_number TooManyLinks ≡ 5) × (refusal_number EndNotANode ≡ 6)
    × (refusal_number EqualEnds ≡ 7) × (refusal_number LinkTooLarge ≡ 8) × (refusal_number BytesFollow ≡ 9)
of_files = (refl, refl, refl, refl, refl, refl, refl, refl, refl)

of_calls : (refusal_number NoSuchLink ≡ 10) × (refusal_number CapacityTooLarge ≡ 11) × (refusal_number StackFull ≡ 12)
    × (refusal_number NothingToUndo ≡ 13) × (refusal_number NoSuchNode ≡ 14) × (refusal_number SameNode ≡ 15)
    × (refusal_number FlowLength ≡ 16) × (refusal_number DemandTooLarge ≡ 17) × (refusal_number BufferTooShort ≡ 18)
    × (refusal_number NotSound ≡ 19) × (refusal_number TooManyReadings ≡ 20)
of_calls = (refl, refl, refl, refl, refl, refl, refl, refl, refl, refl, refl)

-- a call that is refused, and one that is accepted, whatever it gives
abbrev refused : Result ℕ Refusal
refused = Err NothingToUndo

abbrev gives : ℕ → Result ℕ Refusal
gives x = Ok x

outcomes : (outcome_number refused ≡ 13) × (outcome_number (gives 13) ≡ 0) × (outcome_number (gives 0) ≡ 0)
outcomes = (refl, refl, refl)
