-- The nodes of a set, one by one.
use Rattle.std.specs.Prelude.{ℕ, ◌≡◌, Option, MatchOption}
use Rattle.node_set.specs.Set.{empty, removed, Lowest}
use Rattle.node_set.specs.declared.members.Members.{Members}

-- the lowest node of those still to come is given, and comes no more; or none is left, now and later
abbrev pub TakesLowest : Members → Option ℕ → Members → Type 0
TakesLowest before i behind =
    MatchOption i ((before.rest ≡ empty) × (behind.rest ≡ empty))
    (λ i. Lowest before.rest i × (behind.rest ≡ removed before.rest i))
