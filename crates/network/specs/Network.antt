-- The network (docs/SCOPE.md, 1): its limits, its cuts and its flows. The paper's house is a node here.
use Rattle.std.specs.Prelude.{ℕ, ◌≡◌, Bool, true, not, List, [], ◌∷◌, length, get_or, set, replicate, ltb, leb, eqb, ℤ}
use Rattle.std.specs.Prelude.{pos}
use Rattle.min_cut.specs.Cut.{Net, Side, cut_value}
use Rattle.min_cut.specs.FirstWord.{least_min_cut}
use Rattle.base.specs.Word.{holds}
use Rattle.min_cut.specs.Lawful.{Lawful, total}
use Rattle.base.specs.Basics.{at, all, every, blank_from, differ}
use Rattle.network.specs.Limits.{max_nodes, max_links, max_capacity}
use Rattle.network.specs.declared.Network.{Network}

-- ---- the limits
-- a link of a network of n nodes: both ends are nodes, they differ, and the capacity is not too high
abbrev pub link_within : (n a b c : ℕ) → Bool
link_within n a b c = every (ltb a n ∷ ltb b n ∷ not (eqb b a) ∷ leb c max_capacity ∷ [])

abbrev pub link_fits : Network → ℕ → Bool
link_fits net k = link_within net.nodes (at net.a k) (at net.b k) (at net.capacity k)

unfoldable pub network_fits : Network → Bool
network_fits net =
    every (
    leb 1 net.nodes
    ∷ leb net.nodes max_nodes
    ∷ leb net.links max_links
    ∷ all net.links (link_fits net)
    ∷ blank_from net.links net.a
    ∷ blank_from net.links net.b
    ∷ blank_from net.links net.capacity
    ∷ [])

-- the arrays' lengths, which the code's record has by its type
pub record Sized (net : Network) : Type 0 where
  pub a : length net.a ≡ max_links
  pub b : length net.b ≡ max_links
  pub capacity : length net.capacity ≡ max_links

-- a network within the limits
pub record WithinLimits (net : Network) : Type 0 where
  pub fits : network_fits net ≡ true
  pub sized : Sized net

-- all zeros: what stands beside a refusal
abbrev pub no_network : Network
no_network = record {
  nodes = 0;
  links = 0;
  a = replicate max_links 0;
  b = replicate max_links 0;
  capacity = replicate max_links 0;
}

-- n nodes and m links, whose places are all 0
abbrev pub blank_network : ℕ → ℕ → Network
blank_network n m = record no_network { nodes = n; links = m }

-- link k with another capacity
abbrev pub with_capacity : Network → ℕ → ℕ → Network
with_capacity net k c = record {
  nodes = net.nodes;
  links = net.links;
  a = net.a;
  b = net.b;
  capacity = set net.capacity k c;
}

-- ---- its cuts
-- the network as the theory of cuts sees it
abbrev pub graph : Network → Net
graph net = record { m = net.links; a = at net.a; b = at net.b; c = at net.capacity }

-- whether a side crosses (the paper: parts) link k
abbrev pub crosses_link : Network → Side → ℕ → Bool
crosses_link net X k = differ (X (at net.a k)) (X (at net.b k))

-- the value (the paper: cost) of a side
abbrev pub value_of : Network → Side → ℕ
value_of net X = cut_value (graph net) X

-- the least minimum cut (the paper: the least side) of (s, t), and its value
abbrev pub least_side : Network → ℕ → ℕ → ℕ
least_side net s t = least_min_cut net.nodes (graph net) s t

abbrev pub min_cut_value : Network → ℕ → ℕ → ℕ
min_cut_value net s t = value_of net (holds (least_side net s t))

-- ---- its flows: one signed number for each link, positive from a to b
abbrev pub flow_at : List ℤ → ℕ → ℤ
flow_at f k = get_or f k (pos 0)

pub record LawfulFlow (net : Network) (s t : ℕ) (f : List ℤ) : Type 0 where
  pub size : length f ≡ net.links
  pub lawful : Lawful (graph net) net.nodes s t (flow_at f)

-- what leaves s less what enters s
abbrev pub total_of : Network → List ℤ → ℕ → ℤ
total_of net f s = total (graph net) (flow_at f) s
