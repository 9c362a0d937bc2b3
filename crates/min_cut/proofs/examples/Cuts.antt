-- Worked examples of the definitions of cuts and flows (docs/SCOPE.md, 3): resort A, zero capacities, an unconnected
-- network, parallel links, ties, flows.
use Rattle.std.specs.Prelude.{◌≡◌, refl, ◌≢◌, List, [], ◌∷◌, true, false, ℕ, zero, suc, ◌≤◌, ◌<◌, length, get_or, ℤ, pos, negsuc, nat_abs}
use Rattle.std.proofs.Common.{sym, arith}
use Rattle.std.proofs.Math.Decide.{ℕ_discrete}
use Rattle.std.proofs.Math.IntN.{pos-ne-negsuc}
use Rattle.base.specs.Sum.{sum}
use Rattle.min_cut.specs.Cut.{Net, crossing, cut_value, MinCut, Within}
use Rattle.min_cut.specs.FirstWord.{first, between, least_min_cut}
use Rattle.base.specs.Word.{holds}
use Rattle.min_cut.specs.Lawful.{outflow, Lawful, total, MaximumFlow}
use Rattle.min_cut.specs.code.Residual.{leaving}
use Rattle.min_cut.proofs.theorems.MaxFlow.{tight_maximum, tight_minimum}

-- the network of three lists: the links' two ends and capacities
abbrev net : List ℕ → List ℕ → List ℕ → Net
net a b c = record { m = length c; a = λ k. get_or a k 0; b = λ k. get_or b k 0; c = λ k. get_or c k 0 }

abbrev resort_a : Net
resort_a = net (0 ∷ 1 ∷ 2 ∷ 0 ∷ 0 ∷ []) (1 ∷ 2 ∷ 3 ∷ 3 ∷ 2 ∷ []) (5 ∷ 3 ∷ 4 ∷ 2 ∷ 1 ∷ [])

-- ---- links, words
crossing_table : (crossing true true 7 ≡ 0) × (crossing true false 7 ≡ 7) × (crossing false true 7 ≡ 7)
    × (crossing false false 7 ≡ 0)
crossing_table = (refl, refl, refl, refl)

-- the residual capacity from a to b is p, from b to a q
leaving_table : (leaving true true 7 5 ≡ 0) × (leaving true false 7 5 ≡ 7) × (leaving false true 7 5 ≡ 5)
    × (leaving false false 7 5 ≡ 0)
leaving_table = (refl, refl, refl, refl)

between_table : (between 2 1 13 ≡ true) × (between 1 2 13 ≡ false) × (between 2 0 13 ≡ false) × (between 1 1 13 ≡ false)
unfolding holds
between_table = (refl, refl, refl, refl)

-- of 0 to 4 the first that is taken and least; of equals the first; 0 where none is taken
first_table :
    (first (λ k. get_or (false ∷ true ∷ true ∷ true ∷ true ∷ []) k false) (λ k. get_or (1 ∷ 4 ∷ 2 ∷ 2 ∷ 3 ∷ []) k 0) 5 ≡ 2)
    × (first (λ k. true) (λ k. 7) 5 ≡ 0) × (first (λ k. false) (λ k. k) 5 ≡ 0)
unfolding first
first_table = (refl, refl, refl)

-- ---- cuts
values_A : (cut_value resort_a (holds 2) ≡ 8) × (cut_value resort_a (holds 14) ≡ 8) × (cut_value resort_a (holds 12) ≡ 6)
    × (cut_value resort_a (holds 8) ≡ 6) × (cut_value resort_a (holds 4) ≡ 8) × (cut_value resort_a (holds 10) ≡ 14)
    × (cut_value resort_a (holds 15) ≡ 0)
unfolding cut_value sum holds
values_A = (refl, refl, refl, refl, refl, refl, refl)

-- reading P2: {1}, and not {1, 2, 3}, which costs the same; {2, 3}; {3}
least_A : (least_min_cut 4 resort_a 1 0 ≡ 2) × (least_min_cut 4 resort_a 2 0 ≡ 12) × (least_min_cut 4 resort_a 3 2 ≡ 8)
unfolding least_min_cut first cut_value sum holds
least_A = (refl, refl, refl)

-- the least of (0, 1) is {0}, and not what the least of (1, 0) leaves
least_A_turned : (least_min_cut 4 resort_a 0 1 ≡ 1) × (least_min_cut 4 resort_a 0 2 ≡ 3) × (least_min_cut 4 resort_a 2 3 ≡ 7)
unfolding least_min_cut first cut_value sum holds
least_A_turned = (refl, refl, refl)

-- capacities of 0: every side costs 0, and the least holds one node
zeros : Net
zeros = net (0 ∷ 1 ∷ []) (1 ∷ 2 ∷ []) (0 ∷ 0 ∷ [])

least_zeros : (least_min_cut 3 zeros 2 0 ≡ 4) × (least_min_cut 3 zeros 1 2 ≡ 2) × (cut_value zeros (holds 5) ≡ 0)
unfolding zeros least_min_cut first cut_value sum holds
least_zeros = (refl, refl, refl)

-- {0, 1} and {2, 3}, unconnected: a whole part costs 0
parts : Net
parts = net (0 ∷ 2 ∷ []) (1 ∷ 3 ∷ []) (3 ∷ 4 ∷ [])

least_parts : (least_min_cut 4 parts 2 0 ≡ 12) × (cut_value parts (holds 12) ≡ 0) × (least_min_cut 4 parts 1 0 ≡ 2)
    × (cut_value parts (holds 2) ≡ 3)
unfolding parts least_min_cut first cut_value sum holds
least_parts = (refl, refl, refl, refl)

-- three links between the same two nodes, whichever end stands first
parallel : Net
parallel = net (0 ∷ 1 ∷ 0 ∷ []) (1 ∷ 0 ∷ 1 ∷ []) (2 ∷ 3 ∷ 4 ∷ [])

value_parallel : (cut_value parallel (holds 2) ≡ 9) × (least_min_cut 2 parallel 1 0 ≡ 2)
unfolding parallel least_min_cut first cut_value sum holds
value_parallel = (refl, refl)

-- a path 0, 1, 2, 3 of equal links: all three edges cost the same, and the one next to s is taken
path : Net
path = net (0 ∷ 1 ∷ 2 ∷ []) (1 ∷ 2 ∷ 3 ∷ []) (3 ∷ 3 ∷ 3 ∷ [])

least_path : (least_min_cut 4 path 0 3 ≡ 1) × (least_min_cut 4 path 3 0 ≡ 8) × (least_min_cut 4 path 2 0 ≡ 12)
    × (cut_value path (holds 1) ≡ cut_value path (holds 7))
unfolding path least_min_cut first cut_value sum holds
least_path = (refl, refl, refl, refl)

-- a ring: from 3 to 0 the sides {1, 3} and {2, 3} cost as much as {3} and cross each other
ring : Net
ring = net (0 ∷ 0 ∷ 1 ∷ 2 ∷ []) (1 ∷ 2 ∷ 3 ∷ 3 ∷ []) (1 ∷ 1 ∷ 1 ∷ 1 ∷ [])

least_ring : (least_min_cut 4 ring 3 0 ≡ 8) × (cut_value ring (holds 10) ≡ 2) × (cut_value ring (holds 12) ≡ 2)
    × (cut_value ring (holds 8) ≡ 2)
unfolding ring least_min_cut first cut_value sum holds
least_ring = (refl, refl, refl, refl)

-- ---- flows
abbrev flow : List ℤ → ℕ → ℤ
flow zs k = get_or zs k (pos 0)

-- 8 from 0 to 1: 5 by the link between them, 3 by way of 2, of which 2 by way of 3
eight : ℕ → ℤ
eight = flow (pos 5 ∷ negsuc 2 ∷ negsuc 1 ∷ pos 2 ∷ pos 1 ∷ [])

outflow_eight : (outflow resort_a eight 0 5 ≡ pos 8) × (outflow resort_a eight 1 5 ≡ negsuc 7)
    × (outflow resort_a eight 2 5 ≡ pos 0) × (outflow resort_a eight 3 5 ≡ pos 0) × (outflow resort_a eight 3 3 ≡ pos 2)
unfolding eight outflow
outflow_eight = (refl, refl, refl, refl, refl)

total_eight : (total resort_a eight 0 ≡ pos 8) × (total resort_a eight 1 ≡ negsuc 7)
unfolding eight outflow total
total_eight = (refl, refl)

-- a fact of each of the numbers below 4, below 5
four : (P : ℕ → Type 0) → P 0 → P 1 → P 2 → P 3 → (k : ℕ) → k < 4 → P k
four P a b c d zero l = a
four P a b c d (suc zero) l = b
four P a b c d (suc (suc zero)) l = c
four P a b c d (suc (suc (suc zero))) l = d
four P a b c d (suc (suc (suc (suc k)))) l = absurd (omega arith)

five : (P : ℕ → Type 0) → P 0 → P 1 → P 2 → P 3 → P 4 → (k : ℕ) → k < 5 → P k
five P a b c d e k l = go (ℕ_discrete k 4)
  where
    go : Dec (k ≡ 4) → P k
    go (yes q) = rw q e
    go (no n) = four P a b c d k (omega arith)

lawful_eight : Lawful resort_a 4 0 1 eight
unfolding eight outflow
lawful_eight = record {
  within = five (λ k. nat_abs (eight k) ≤ resort_a.c k) (omega arith) (omega arith) (omega arith) (omega arith)
      (omega arith);
  conserved = four (λ x. x ≢ 0 → x ≢ 1 → outflow resort_a eight x 5 ≡ pos 0) (λ s t. absurd (s refl))
      (λ s t. absurd (t refl)) (λ s t. refl) (λ s t. refl);
}

within_A : Within resort_a 4
within_A =
    five (λ k. (resort_a.a k < 4) × (resort_a.b k < 4)) (omega arith) (omega arith) (omega arith) (omega arith)
    (omega arith)

-- {0, 2, 3} costs as much as the flow carries: the flow is a maximum flow, and the side a minimum cut
maximum_eight : MaximumFlow resort_a 4 0 1 8 eight × MinCut resort_a 0 1 (holds 13)
unfolding eight total outflow cut_value sum holds
maximum_eight = (
  tight_maximum resort_a 4 0 1 within_A (omega arith) eight lawful_eight
      (holds 13) refl refl refl,
  tight_minimum resort_a 4 0 1 within_A (omega arith) eight lawful_eight
      (holds 13) refl refl refl,
)

-- a link used beyond its capacity of 2, with 3 from 0 to 3, and with 3 back in a round; all else is kept
too_much : ¬ (Lawful resort_a 4 0 1 (flow (pos 5 ∷ negsuc 2 ∷ negsuc 2 ∷ pos 3 ∷ pos 0 ∷ [])))
too_much h = let l : 3 ≤ 2 = h.within 3 (omega arith) in omega arith

too_much_back : ¬ (Lawful resort_a 4 0 1 (flow (pos 3 ∷ pos 3 ∷ pos 3 ∷ negsuc 2 ∷ pos 0 ∷ [])))
too_much_back h = let l : 3 ≤ 2 = h.within 3 (omega arith) in omega arith

-- a link turned: node 3 gets 2 from 0 and 2 from 2
turned : ¬ (Lawful resort_a 4 0 1 (flow (pos 5 ∷ negsuc 2 ∷ pos 2 ∷ pos 2 ∷ pos 1 ∷ [])))
unfolding outflow
turned h = pos-ne-negsuc 0 3 (sym (h.conserved 3 (omega arith) (omega arith) (omega arith)))

-- a flow from 0 to 1 is none from 0 to 2: node 1 keeps it, and 2 is not the end
elsewhere : ¬ (Lawful resort_a 4 0 2 eight)
unfolding eight outflow
elsewhere h = pos-ne-negsuc 0 7 (sym (h.conserved 1 (omega arith) (omega arith) (omega arith)))
