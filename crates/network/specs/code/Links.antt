-- The links of a network, one by one.
use Rattle.std.specs.Prelude.{ℕ, ◌≡◌, ◌+◌, ◌<◌, ◌≤◌, Option, MatchOption}
use Rattle.base.specs.Basics.{at}
use Rattle.network.specs.Limits.{max_nodes, max_links, max_capacity}
use Rattle.network.specs.declared.Network.{Network}
use Rattle.network.specs.declared.link.Link.{Link}
use Rattle.network.specs.declared.links.Links.{Links}

-- link k of a network
abbrev pub link_of : Network → ℕ → Link
link_of net k = record { a = at net.a k; b = at net.b k; capacity = at net.capacity k }

-- l is link k of a network, and within the limits
pub record IsLink (net : Network) (k : ℕ) (l : Link) : Type 0 where
  pub same : l ≡ link_of net k
  pub some : k < net.links
  pub place : k < max_links
  pub a : l.a < max_nodes
  pub b : l.b < max_nodes
  pub capacity : l.capacity ≤ max_capacity

-- the next link is given, and has come; or none is given, since all have come
abbrev pub TakesLink : Links → Option Link → Links → Type 0
TakesLink before link behind =
    MatchOption link ((before.net.now.network.links ≤ before.come) × (behind ≡ before))
    (λ l. IsLink before.net.now.network before.come l × (behind.net ≡ before.net) × (behind.come ≡ before.come + 1))
