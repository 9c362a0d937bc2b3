-- Worked examples, by evaluation: the least minimum cuts of resort A (docs/SCOPE.md, 10) (its reading P2), and how
-- residual capacities start, change
-- and are read as a flow.
use Rattle.std.specs.Prelude.{◌≡◌, refl, true, false, [], ◌∷◌, pos, neg_ℤ, take}
use Rattle.base.specs.Sum.{sum}
use Rattle.min_cut.specs.Cut.{cut_value}
use Rattle.min_cut.specs.FirstWord.{first, least_min_cut}
use Rattle.base.specs.Word.{holds}
use Rattle.network.proofs.examples.Networks.{resort_a}
use Rattle.max_flow.specs.LeastCut.{least_cut_of}
use Rattle.max_flow.specs.code.Residuals.{full_up_to, full_residual, row_after}
use Rattle.max_flow.specs.code.LinkFlows.{link_flows_up_to, link_flows}

-- {1}, and not {1, 2, 3}, which costs the same; {2, 3}; {3}
cuts : (least_cut_of resort_a 1 0 ≡ record { side = 2; value = 8 })
    × (least_cut_of resort_a 2 0 ≡ record { side = 12; value = 6 })
    × (least_cut_of resort_a 3 2 ≡ record { side = 8; value = 6 })
unfolding least_cut_of least_min_cut first cut_value sum holds
cuts = (refl, refl, refl)

-- at first each link may take its capacity each way; a place without a link, nothing
full : take 6 (full_residual resort_a)
    ≡ (5 ∷ 5 ∷ []) ∷ (3 ∷ 3 ∷ []) ∷ (4 ∷ 4 ∷ []) ∷ (2 ∷ 2 ∷ []) ∷ (1 ∷ 1 ∷ []) ∷ (0 ∷ 0 ∷ []) ∷ []
unfolding full_up_to
full = refl

-- what is taken from one way is added to the other
rows : (row_after true 5 5 2 ≡ 3 ∷ 7 ∷ []) × (row_after false 5 5 2 ≡ 7 ∷ 3 ∷ [])
rows = (refl, refl)

-- a link with 3 left of 5 carries 2 from a to b; one with 7 left of 5 carries 2 back
carried : link_flows ((5 ∷ 5 ∷ []) ∷ (5 ∷ 5 ∷ []) ∷ []) ((3 ∷ 7 ∷ []) ∷ (7 ∷ 3 ∷ []) ∷ []) (pos 0 ∷ pos 0 ∷ [])
    ≡ pos 2 ∷ neg_ℤ (pos 2) ∷ []
unfolding link_flows_up_to
carried = refl
