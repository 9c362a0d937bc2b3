-- The limits (docs/SCOPE.md, 1), each said once: nodes, links, the capacity and the groups; others are computed from
-- them.
use Rattle.std.specs.Prelude.{ℕ, ◌*◌}

-- nodes (the paper's houses) of a network
abbrev pub max_nodes : ℕ
max_nodes = 64

-- links of a network
abbrev pub max_links : ℕ
max_links = 256

-- arcs of a network: each link there and back
abbrev pub max_arcs : ℕ
max_arcs = 2 * max_links

-- a capacity, in tenths of a megabit per second
abbrev pub max_capacity : ℕ
max_capacity = 8000000

-- groups of seven bits in a number of the file
abbrev pub max_groups : ℕ
max_groups = 4

-- a cut value: every link at its highest capacity
abbrev pub max_value : ℕ
max_value = max_links * max_capacity
