-- Demand 1, for the calls on a plan: each number of the table of checks is given under its condition and no other, a
-- refusal alters nothing, and an accepted reply has the number 0. Each call has its table in words, and one law
-- (`numbered`) shows them all. Numbers 1 to 9 are given by opening exactly for a fault of the file, with its place.
use Rattle.std.specs.Prelude.{ℕ, ◌<◌, ◌≤◌, ◌≡◌, ◌≢◌, true, false, List, length}
use Rattle.plan.specs.declared.Plan.{Plan}
use Rattle.base.specs.Checks.{Row}
use Rattle.base.specs.Conditions.{Meaning, end, means}
use Rattle.base.proofs.laws.ChecksLaws.{holding, failing, above, not_above}
use Rattle.base.proofs.laws.ChecksLaws.{below, not_below, equal, not_equal, unequal, not_unequal, both_below}
use Rattle.base.proofs.laws.ChecksLaws.{one_not_below}
use Rattle.network.specs.Limits.{max_capacity}
use Rattle.network.specs.Refusals.{no_such_link, capacity_too_large, stack_full, nothing_to_undo, no_such_node}
use Rattle.network.specs.Refusals.{same_node}
use Rattle.network.specs.Refusals.{flow_length, demand_too_large, buffer_too_short, not_sound}
use Rattle.network_file.specs.Writing.{file_of}
use Rattle.cut_tree.specs.Path.{pair_rows}
use Rattle.plan.specs.Plan.{max_depth, sound}
use Rattle.plan.specs.Calls.{max_demand, change_rows, undo_rows}
use Rattle.plan.specs.Calls.{node_rows}
use Rattle.plan.specs.Calls.{preview_rows}
use Rattle.plan.specs.Calls.{flow_rows, headroom_rows}
use Rattle.plan.specs.Calls.{write_rows}

-- ---- pair
abbrev pub AreNodes : Plan → (s t : ℕ) → Type 0
AreNodes p s t = (s < p.network.nodes) × (t < p.network.nodes)

-- the rows of a change, and the table of those behind them
abbrev pub change_table : (p : Plan) (k c : ℕ) {rs : List Row} → Meaning rs → Meaning (change_rows p k c rs)
change_table p k c later =
    means not_sound (sound p ≡ false) (sound p ≡ true) (failing (sound p)) (holding (sound p))
    (means no_such_link (p.network.links ≤ k) (k < p.network.links) (not_below k p.network.links)
    (below k p.network.links)
    (means capacity_too_large (max_capacity < c) (c ≤ max_capacity) (above max_capacity c) (not_above max_capacity c)
    (means stack_full (p.stack.depth ≡ max_depth) (p.stack.depth ≢ max_depth) (equal _ _) (not_equal _ _)
    later)))

-- ---- undo
abbrev pub undo_table : (p : Plan) → Meaning (undo_rows p)
undo_table p =
    means not_sound (sound p ≡ false) (sound p ≡ true) (failing (sound p)) (holding (sound p))
    (means nothing_to_undo (p.stack.depth ≡ 0) (p.stack.depth ≢ 0) (equal _ _) (not_equal _ _)
    end)

-- the rows of two nodes, and the table of those behind them
abbrev pub pair_table : (p : Plan) (s t : ℕ) {rs : List Row} → Meaning rs
    → Meaning (pair_rows p.network.nodes s t rs)
pair_table p s t later =
    let n = p.network.nodes in
    means no_such_node (¬ (AreNodes p s t)) (AreNodes p s t) (one_not_below s t n) (both_below s t n)
    (means same_node (s ≡ t) (s ≢ t) (equal s t) (not_equal s t)
    later)

-- those of a call for two nodes
abbrev pub node_table : (p : Plan) (s t : ℕ) {rs : List Row} → Meaning rs → Meaning (node_rows p s t rs)
node_table p s t later =
    means not_sound (sound p ≡ false) (sound p ≡ true) (failing (sound p)) (holding (sound p)) (pair_table p s t later)

-- ---- preview: the change's rows, then the pair's
abbrev pub preview_table : (p : Plan) (k c s t : ℕ) → Meaning (preview_rows p k c s t)
preview_table p k c s t = change_table p k c (pair_table p s t end)

-- ---- flow: the number that its contract gives, and the buffer before and behind it
abbrev pub flow_table : (p : Plan) (s t size : ℕ) → Meaning (flow_rows p s t size)
flow_table p s t size =
    let m = p.network.links in
    node_table p s t (means flow_length (size ≢ m) (size ≡ m) (unequal size m) (not_unequal size m) end)

-- ---- headroom
-- the rows of a headroom, and the table of those behind them
abbrev pub headroom_table : (p : Plan) (s t demand : ℕ) {rs : List Row} → Meaning rs
    → Meaning (headroom_rows p s t demand rs)
headroom_table p s t demand later =
    node_table p s t
    (means demand_too_large (max_demand < demand) (demand ≤ max_demand) (above max_demand demand)
    (not_above max_demand demand) later)

-- ---- writing
abbrev pub write_table : (p : Plan) (size : ℕ) → Meaning (write_rows p size)
write_table p size =
    let file = length (file_of p.network) in
    means not_sound (sound p ≡ false) (sound p ≡ true) (failing (sound p)) (holding (sound p))
    (means buffer_too_short (size < file) (file ≤ size) (above size file) (not_above size file)
    end)
