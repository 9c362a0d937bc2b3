-- What the function for timing gives.
use Rattle.std.specs.Prelude.{ℕ, zero, suc, List}
use Rattle.base.specs.Basics.{at}
use Rattle.base.specs.Checks.{accepted}
use Rattle.network.specs.declared.Network.{Network}
use Rattle.network_file.specs.Reading.{read_file}
use Rattle.network_file.specs.Reading.{Reading}
use Rattle.cut_tree.specs.Rule.{rule}

-- the weight of node 1 in the tree of a network
unfoldable pub weight_of : Network → ℕ
weight_of net = at (rule net).tree.weight 1

-- the same after some rounds; 0 after none
unfoldable pub weight_after : Network → ℕ → ℕ
weight_after net zero = 0
weight_after net (suc k) = weight_of net

-- 0 beside a refused file
abbrev pub timed_in : Reading → ℕ → ℕ
timed_in r rounds = accepted r.number (weight_after r.network rounds) (λ e. 0)

unfoldable pub timed_of : List ℕ → ℕ → ℕ
timed_of file rounds = timed_in (read_file file) rounds
