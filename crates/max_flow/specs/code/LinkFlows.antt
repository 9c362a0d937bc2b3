-- From residual capacities to a flow with one signed number for each link, positive from a to b: what was there before
-- anything was sent, its
-- capacity, less what is left from a to b.
use Rattle.std.specs.Prelude.{List, ℤ, pos, ◌-ℤ◌, set, length, ℕ, zero, suc, ◌+◌, ◌*◌, ◌<◌, ◌≤◌}
use Rattle.network.specs.Limits.{max_links, max_capacity}
use Rattle.max_flow.specs.GrowingFlow.{ahead, back}

-- what link k carries
abbrev pub link_flow : (full r : List (List ℕ)) → ℕ → ℤ
link_flow full r k = pos (ahead full k) -ℤ pos (ahead r k)

-- the first k places of f replaced by what these links carry
unfoldable pub link_flows_up_to : (full r : List (List ℕ)) → List ℤ → ℕ → List ℤ
link_flows_up_to full r f zero = f
link_flows_up_to full r f (suc k) = set (link_flows_up_to full r f k) k (link_flow full r k)

abbrev pub link_flows : (full r : List (List ℕ)) → List ℤ → List ℤ
link_flows full r f = link_flows_up_to full r f (length f)

-- the numbers of the first m links are within the limits
pub record Moderate (full r : List (List ℕ)) (m : ℕ) : Type 0 where
  pub links : m ≤ max_links
  pub capacities : (k : ℕ) → k < m → ahead full k ≤ max_capacity
  pub residuals : (k : ℕ) → k < m → ahead r k + back r k ≤ 2 * max_capacity
