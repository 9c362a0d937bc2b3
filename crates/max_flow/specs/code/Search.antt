-- What a search for an augmenting path is handed, and what it promises: a tree of nodes reached over arcs that have
-- room, which either ends
-- at the sink or is closed. In which order the search goes is not said.
use Rattle.std.specs.Prelude.{◌≡◌, ◌≢◌, true, false, List, ℕ, ◌+◌, ◌-◌, ◌*◌, ◌^◌, ◌<◌, ◌≤◌, set, length, replicate}
use Rattle.base.specs.Word.{holds}
use Rattle.min_cut.specs.code.Arcs.{tail, tip, Shut}
use Rattle.base.specs.Basics.{at}
use Rattle.network.specs.Limits.{max_nodes}
use Rattle.network.specs.Network.{graph}
use Rattle.network.specs.code.Incidence.{Chains}
use Rattle.network.specs.declared.Network.{Network}
use Rattle.network.specs.declared.arc_link.ArcLink.{ArcLink}
use Rattle.node_set.specs.Set.{empty, added, size}
use Rattle.max_flow.specs.LeastCut.{Endpoints}
use Rattle.max_flow.specs.GrowingFlow.{ahead, back}
use Rattle.max_flow.specs.code.Residuals.{unlimited, room_on}
use Rattle.max_flow.specs.declared.search.SearchTree.{SearchTree}

-- two nodes, and the chains of the network's arcs
pub record Ready (net : Network) (first next : List ArcLink) (to : List ℕ) (s t : ℕ) : Type 0 where
  pub ends : Endpoints net s t
  pub chains : Chains net (2 * net.links) first next to

-- ---- trees
-- only s is reached, and nothing limits what can be sent there
abbrev pub seed_by : ℕ → ℕ → SearchTree
seed_by s reached =
    record {
      count = 1;
      reached = reached;
      node = replicate max_nodes s;
      arc = replicate max_nodes 0;
      from = replicate max_nodes 0;
      bottleneck = replicate max_nodes unlimited;
    }

abbrev pub seed_of : ℕ → SearchTree
seed_of s = seed_by s (added empty s)

-- one node more: x, by arc e from place i, to which d can be sent
abbrev pub grown_by : SearchTree → (i e x d reached : ℕ) → SearchTree
grown_by w i e x d reached =
    record {
      count = w.count + 1;
      reached = reached;
      node = set w.node w.count x;
      arc = set w.arc w.count e;
      from = set w.from w.count i;
      bottleneck = set w.bottleneck w.count d;
    }

abbrev pub grown : SearchTree → (i e x d : ℕ) → SearchTree
grown w i e x d = grown_by w i e x d (added w.reached x)

-- how the node at place i was entered
pub record Entered (net : Network) (r : List (List ℕ)) (w : SearchTree) (i : ℕ) : Type 0 where
  pub earlier : at w.from i < i
  pub here : at w.arc i < 2 * net.links
  pub starts : tail (graph net) (at w.arc i) ≡ at w.node (at w.from i)
  pub leads : tip (graph net) (at w.arc i) ≡ at w.node i
  pub fits : at w.bottleneck i ≤ room_on r (at w.arc i)
  pub falls : at w.bottleneck i ≤ at w.bottleneck (at w.from i)

-- the arrays' lengths
pub record Sizes (w : SearchTree) : Type 0 where
  pub nodes : length w.node ≡ max_nodes
  pub arcs : length w.arc ≡ max_nodes
  pub froms : length w.from ≡ max_nodes
  pub bottlenecks : length w.bottleneck ≡ max_nodes

-- a tree from s over arcs with room: each node reached has one place, and was entered from an earlier one
pub record TreeFrom (net : Network) (r : List (List ℕ)) (s : ℕ) (w : SearchTree) : Type 0 where
  pub sizes : Sizes w
  pub some : 0 < w.count
  pub many : w.count ≡ size net.nodes w.reached
  pub under : w.reached < 2 ^ net.nodes
  pub root : at w.node 0 ≡ s
  pub held : (i : ℕ) → i < w.count → holds w.reached (at w.node i) ≡ true
  pub listed : (x : ℕ) → holds w.reached x ≡ true → (i : ℕ) × (i < w.count) × (at w.node i ≡ x)
  pub differ : (i j : ℕ) → i < j → j < w.count → at w.node i ≢ at w.node j
  pub entered : (i : ℕ) → 0 < i → i < w.count → Entered net r w i
  pub flows : (i : ℕ) → i < w.count → 0 < at w.bottleneck i

-- where t is reached it is the last; where it is not, no arc with room leaves what is reached
pub record Searched (net : Network) (r : List (List ℕ)) (s t : ℕ) (w : SearchTree) : Type 0 where
  pub tree : TreeFrom net r s w
  pub hit : holds w.reached t ≡ true → at w.node (w.count - 1) ≡ t
  pub miss : holds w.reached t ≡ false → Shut (graph net) (ahead r) (back r) (holds w.reached)
