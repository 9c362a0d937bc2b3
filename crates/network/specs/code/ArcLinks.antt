-- An arc, or none, in two bytes.
use Rattle.std.specs.Prelude.{ℕ, suc, Bool, List, ltb, get_or, Option, None, Some}
use Rattle.base.specs.Basics.{pick}
use Rattle.network.specs.Limits.{max_arcs}
use Rattle.network.specs.declared.arc_link.ArcLink.{ArcLink}

-- none: a number that no arc has
abbrev pub no_link : ArcLink
no_link = record { number = 65535 }

abbrev pub link_to : ℕ → ArcLink
link_to j = record { number = j }

-- whether there is an arc
abbrev pub is_arc : ArcLink → Bool
is_arc link = ltb link.number max_arcs

-- the arc, if there is one
abbrev pub arc_of : ArcLink → Option ℕ
arc_of link = pick (is_arc link) (Some link.number) None

-- link i of those; none behind their end
abbrev pub link_at : List ArcLink → ℕ → ArcLink
link_at links i = get_or links i no_link

-- one more than an arc, or 0 for none
unfoldable pub entry : Option ℕ → ℕ
entry None = 0
entry (Some j) = suc j

abbrev pub entry_at : List ArcLink → ℕ → ℕ
entry_at links i = entry (arc_of (link_at links i))
