-- Worked examples, by evaluation: flows in residual capacities of resort A (docs/SCOPE.md, 10), and their totals as
-- they grow.
use Rattle.std.specs.Prelude.{◌≡◌, refl, List, [], ◌∷◌, ℕ, pos, neg_ℤ, ◌+ℤ◌}
use Rattle.min_cut.specs.Lawful.{outflow, total}
use Rattle.network.proofs.examples.Networks.{resort_a}
use Rattle.max_flow.specs.GrowingFlow.{flow_in, total_in, HasTotal, Improved}
use Rattle.max_flow.specs.code.Residuals.{full_up_to, full_residual, sent_along}

-- nothing is sent yet
at_start : (flow_in resort_a (full_residual resort_a) 0 ≡ pos 0) × (total_in resort_a (full_residual resort_a) 0 ≡ pos 0)
unfolding full_up_to total outflow
at_start = (refl, refl)

-- 5 from 0 to 1 by the link between them; then 1 more from 0 to 2 by link 4, and on from 2 to 1 by link 1, against its
-- direction
abbrev five : List (List ℕ)
five = sent_along (full_residual resort_a) 0 5

abbrev half_way : List (List ℕ)
half_way = sent_along five 8 1

abbrev six : List (List ℕ)
six = sent_along half_way 3 1

-- each improvement raises the total by what it sends, and links carry what was sent along them
raised : (total_in resort_a five 0 ≡ pos 5) × (total_in resort_a six 0 ≡ total_in resort_a five 0 +ℤ pos 1)
    × (flow_in resort_a six 1 ≡ neg_ℤ (pos 1)) × (flow_in resort_a six 4 ≡ pos 1)
unfolding full_up_to total outflow
raised = (refl, refl, refl, refl)

-- what the records say of these: whatever an improvement by 1 makes of the first has a total of 6, and no other total
-- is carried along with the second
one_more : (r : List (List ℕ)) → Improved resort_a 0 1 1 five r → total_in resort_a r 0 ≡ pos 6
unfolding full_up_to total outflow
one_more r h = h.total

carried_along : (v : ℕ) → HasTotal resort_a 0 1 v six → pos 6 ≡ pos v
unfolding full_up_to total outflow
carried_along v h = h.total

-- it is counted at s: at t it is the same below 0, elsewhere nothing; half_way node 2 has one unit, so that is no flow
at_nodes : (total_in resort_a six 0 ≡ pos 6) × (total_in resort_a six 1 ≡ neg_ℤ (pos 6)) × (total_in resort_a six 2 ≡ pos 0)
    × (total_in resort_a half_way 2 ≡ neg_ℤ (pos 1))
unfolding full_up_to total outflow
at_nodes = (refl, refl, refl, refl)

-- 4 from 2 to 3, of which 1 goes on to 0 and back to 2: 4 leaves node 2 and 1 enters it
abbrev round : List (List ℕ)
round = (5 ∷ 5 ∷ []) ∷ (3 ∷ 3 ∷ []) ∷ (0 ∷ 8 ∷ []) ∷ (3 ∷ 1 ∷ []) ∷ (0 ∷ 2 ∷ []) ∷ []

what_enters : (flow_in resort_a round 2 ≡ pos 4) × (flow_in resort_a round 3 ≡ neg_ℤ (pos 1))
    × (flow_in resort_a round 4 ≡ pos 1) × (total_in resort_a round 2 ≡ pos 3) × (total_in resort_a round 0 ≡ pos 0)
unfolding total outflow
what_enters = (refl, refl, refl, refl, refl)
