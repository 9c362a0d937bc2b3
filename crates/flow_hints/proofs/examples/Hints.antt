-- Worked examples, by evaluation: the hints and the table of resort A (docs/SCOPE.md, 10), what is noted in them, and
-- rings.
use Rattle.std.specs.Prelude.{◌≡◌, refl, true, false, List, [], ◌∷◌, ℕ, take, set, Some, None}
use Rattle.base.specs.Word.{holds}
use Rattle.base.specs.Basics.{at}
use Rattle.network.proofs.examples.Networks.{resort_a}
use Rattle.network.specs.code.ArcLinks.{no_link, link_to, arc_of}
use Rattle.node_set.specs.Set.{added, removed, union, intersection}
use Rattle.flow_hints.specs.declared.hints.Hints.{Hints}
use Rattle.flow_hints.specs.declared.table.ArcTable.{ArcTable}
use Rattle.flow_hints.specs.code.Hints.{no_hints, no_arcs, first_of, behind_of}
use Rattle.flow_hints.specs.code.Hints.{way_noted, shut_noted, sent_noted, short_noted}
use Rattle.flow_hints.specs.code.Hints.{hints_up_to, start_hints, table_up_to, table_filled, arc_put, has_room}
use Rattle.flow_hints.specs.code.Hints.{leads_to, leading_below, leading_to}

-- hints that ring 1 is all that is known of
abbrev ringed : ℕ → Hints → Hints
ringed nodes hints = record hints { ring = set hints.ring 1 nodes }

-- at first each node leads to its neighbours, and these lead to it
abbrev neighbours : List ℕ
neighbours = 14 ∷ 5 ∷ 11 ∷ 5 ∷ 0 ∷ []

start : (take 5 (start_hints resort_a).ahead ≡ neighbours) × (take 5 (start_hints resort_a).into ≡ neighbours)
unfolding hints_up_to way_noted added
start = (refl, refl)

-- no way from 0 to 3: 0 leads to 1 and 2, and 2 alone leads to 3; something sent from 3 to 0 opens it again
shut : (take 4 (shut_noted (start_hints resort_a) 0 3).ahead ≡ 6 ∷ 5 ∷ 11 ∷ 5 ∷ [])
    × (take 4 (shut_noted (start_hints resort_a) 0 3).into ≡ 14 ∷ 5 ∷ 11 ∷ 4 ∷ [])
    × (way_noted (shut_noted (start_hints resort_a) 0 3) 3 0 ≡ start_hints resort_a)
unfolding hints_up_to way_noted shut_noted added removed
shut = (refl, refl, refl)

-- sent from 0 to 3 along arc 6: nothing; less than its room; all of it, with no arc behind it, and with one
abbrev followed : ArcTable
followed = record no_arcs { behind = set no_arcs.behind 6 (link_to 8) }

sent : (sent_noted no_hints no_arcs 0 3 6 2 0 ≡ no_hints)
    × (sent_noted no_hints no_arcs 0 3 6 2 1 ≡ way_noted no_hints 0 3)
    × (sent_noted no_hints no_arcs 0 3 6 2 2 ≡ shut_noted (way_noted no_hints 0 3) 0 3)
    × (sent_noted no_hints followed 0 3 6 2 2 ≡ way_noted no_hints 0 3)
unfolding sent_noted
sent = (refl, refl, refl, refl)

-- less than wanted was sent on from 3, of ring 1; as much as wanted
short : (at (short_noted (ringed 12 no_hints) 3 1 2 1).ring 1 ≡ 4)
    × (at (short_noted (ringed 12 no_hints) 3 1 2 2).ring 1 ≡ 12)
unfolding short_noted removed
short = (refl, refl)

-- each arc stands at its ends; of two with the same ends the first stands behind the second
arcs : (first_of (table_filled resort_a no_arcs) 0 3 ≡ link_to 6)
    × (first_of (table_filled resort_a no_arcs) 3 0 ≡ link_to 7)
    × (first_of (table_filled resort_a no_arcs) 1 3 ≡ no_link) × (behind_of (table_filled resort_a no_arcs) 6 ≡ no_link)
unfolding table_up_to
arcs = (refl, refl, refl, refl)

parallel : (first_of (arc_put (arc_put no_arcs 0 1 0) 0 1 2) 0 1 ≡ link_to 2)
    × (behind_of (arc_put (arc_put no_arcs 0 1 0) 0 1 2) 2 ≡ link_to 0)
parallel = (refl, refl)

links : (arc_of (link_to 6) ≡ Some 6) × (arc_of (link_to 511) ≡ Some 511) × (arc_of no_link ≡ None)
links = (refl, refl, refl)

spare : (has_room ((0 ∷ 4 ∷ []) ∷ []) 0 ≡ false) × (has_room ((0 ∷ 4 ∷ []) ∷ []) 1 ≡ true)
spare = (refl, refl)

-- 0 and 2 lead to 3; all nodes lead to 0 or to 3; of ring 1, {0, 2}, node 1 leads to both, and node 2 to 0
rings : (leading_to (start_hints resort_a) 8 ≡ 5) × (leading_to (start_hints resort_a) 9 ≡ 15)
    × (leads_to (ringed 5 (start_hints resort_a)) 1 1 ≡ 5) × (leads_to (ringed 5 (start_hints resort_a)) 2 1 ≡ 1)
unfolding hints_up_to way_noted added leading_below holds union intersection
rings = (refl, refl, refl, refl)
