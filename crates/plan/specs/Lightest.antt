-- What is said of the lightest tree edge that a plan holds.
use Rattle.std.specs.Prelude.{ℕ, ◌≤◌, ◌<◌, ◌≡◌, ◌≢◌}
use Rattle.cut_tree.specs.Path.{number_of, weight_of}
use Rattle.cut_tree.specs.LightestEdge.{lightest_edge}
use Rattle.plan.specs.Calls.{pair_of}
use Rattle.plan.specs.declared.Plan.{Plan}

-- "keep it true": the edge is that of the plan's own tree
abbrev pub HoldsLightest : Plan → Type 0
HoldsLightest p = p.lightest ≡ lightest_edge p.network.nodes p.tree

-- no pair's weight is below w, and some pair's is w
pub record LeastPair (p : Plan) (w : ℕ) : Type 0 where
  pub every_pair : (s t : ℕ) → s < p.network.nodes → t < p.network.nodes → s ≢ t → w ≤ weight_of (pair_of p s t)
  pub some_pair : (s t : ℕ) × (number_of (pair_of p s t) ≡ 0) × (weight_of (pair_of p s t) ≡ w)
