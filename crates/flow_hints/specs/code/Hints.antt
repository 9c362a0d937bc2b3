-- What the functions over the hints and the table of arcs write into these and read from them. What a hint leads to is
-- said nowhere.
use Rattle.std.specs.Prelude.{ℕ, zero, suc, ◌+◌, ◌*◌, ◌/◌, ◌%◌, Bool, List, [], ltb, eqb, get_or, set, replicate}
use Rattle.std.specs.Prelude.{not}
use Rattle.base.specs.Word.{holds}
use Rattle.base.specs.Basics.{at, pick}
use Rattle.network.specs.Limits.{max_nodes, max_arcs}
use Rattle.network.specs.code.ArcLinks.{no_link, link_to, is_arc, link_at}
use Rattle.network.specs.declared.Network.{Network}
use Rattle.network.specs.declared.arc_link.ArcLink.{ArcLink}
use Rattle.node_set.specs.Set.{added, removed, union, intersection}
use Rattle.flow_hints.specs.declared.hints.Hints.{Hints}
use Rattle.flow_hints.specs.declared.table.ArcTable.{ArcTable}

-- ---- the hints: `ahead` has at u the nodes to which u leads, `into` at v those that lead to v, `ring` at l ring l
abbrev pub no_sets : List ℕ
no_sets = replicate max_nodes 0

abbrev pub no_hints : Hints
no_hints = record { ahead = no_sets; into = no_sets; ring = no_sets }

-- ---- the table: `first` has an arc from u to x at u and x, and `behind` another with j's ends at j
abbrev pub no_arcs : ArcTable
no_arcs = record { first = replicate max_nodes (replicate max_nodes no_link); behind = replicate max_arcs no_link }

-- the first arc from u to x; no one reads out of bounds, where arc 0 is given
abbrev pub first_of : ArcTable → (u x : ℕ) → ArcLink
first_of table u x = get_or (get_or table.first u []) x (link_to 0)

-- the one behind arc j
abbrev pub behind_of : ArcTable → (j : ℕ) → ArcLink
behind_of table j = link_at table.behind j

-- whether no arc stands behind j
abbrev pub is_last : ArcTable → (j : ℕ) → Bool
is_last table j = not (is_arc (behind_of table j))

-- ---- what is noted
-- a node more in one of the sets, or less
abbrev pub with_node : List ℕ → (i v : ℕ) → List ℕ
with_node sets i v = set sets i (added (at sets i) v)

abbrev pub without_node : List ℕ → (i v : ℕ) → List ℕ
without_node sets i v = set sets i (removed (at sets i) v)

-- a way from x to u
unfoldable pub way_noted : Hints → (u x : ℕ) → Hints
way_noted hints u x = record hints { ahead = with_node hints.ahead x u; into = with_node hints.into u x }

-- that there is none from u to x
unfoldable pub shut_noted : Hints → (u x : ℕ) → Hints
shut_noted hints u x = record hints { ahead = without_node hints.ahead u x; into = without_node hints.into x u }

-- d was sent from u to x along arc j, which had `room`: where that was all, and no arc stands behind j, the way is shut
unfoldable pub sent_noted : Hints → ArcTable → (u x j spare d : ℕ) → Hints
sent_noted hints table u x j spare d =
    let noted = way_noted hints u x in
    pick (eqb d 0) hints (pick (eqb d spare) (pick (is_last table j) (shut_noted noted u x) noted) noted)

-- d of `want` was sent on from x, of ring l: with less than wanted, x leaves the ring
unfoldable pub short_noted : Hints → (x l want d : ℕ) → Hints
short_noted hints x l want d = pick (ltb d want) (record hints { ring = without_node hints.ring l x }) hints

-- ---- before anything is sent
-- a way each way along the first k links
unfoldable pub hints_up_to : Network → ℕ → Hints
hints_up_to net zero = no_hints
hints_up_to net (suc k) =
    let u = at net.a k in
    let v = at net.b k in
    way_noted (way_noted (hints_up_to net k) u v) v u

abbrev pub start_hints : Network → Hints
start_hints net = hints_up_to net net.links

-- arc j, from u to x, before those that stand there
abbrev pub arc_put : ArcTable → (u x j : ℕ) → ArcTable
arc_put table u x j =
    record {
      first = set table.first u (set (get_or table.first u []) x (link_to j));
      behind = set table.behind j (first_of table u x);
    }

-- the arcs of the first k links
unfoldable pub table_up_to : Network → ArcTable → ℕ → ArcTable
table_up_to net table zero = table
table_up_to net table (suc k) =
    let u = at net.a k in
    let v = at net.b k in
    arc_put (arc_put (table_up_to net table k) u v (2 * k)) v u (2 * k + 1)

abbrev pub table_filled : Network → ArcTable → ArcTable
table_filled net table = table_up_to net table net.links

-- ---- what is read
-- what may still be sent along arc j
abbrev pub room_of : List (List ℕ) → ℕ → ℕ
room_of residual j = get_or (get_or residual (j / 2) []) (j % 2) 0

-- whether arc j has room
abbrev pub has_room : List (List ℕ) → ℕ → Bool
has_room residual j = ltb 0 (room_of residual j)

-- the nodes of ring l to which u leads
abbrev pub leads_to : Hints → (u l : ℕ) → ℕ
leads_to hints u l = intersection (at hints.ahead u) (at hints.ring l)

-- the nodes that lead to one of `nodes` below i
unfoldable pub leading_below : Hints → (nodes i : ℕ) → ℕ
leading_below hints nodes zero = 0
leading_below hints nodes (suc i) =
    let all = leading_below hints nodes i in
    pick (holds nodes i) (union all (at hints.into i)) all

abbrev pub leading_to : Hints → ℕ → ℕ
leading_to hints nodes = leading_below hints nodes max_nodes
