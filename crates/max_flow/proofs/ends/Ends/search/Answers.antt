-- `search` meets its contract. Over the places: those before i are done. Over a node's arcs: those that have come are
-- done. Each turn over the places ends one; a chain of arcs falls.
use Rattle.std.proofs.Common.{◌≡◌, suc, sym, ap, ◌∙◌, ℕ, ◌<◌, get_or, arith}
use Rattle.std.proofs.lemmas.List.{get_or_default}
use Rattle.std.proofs.Math.Logic.{∥∥₁_elim}
use Rattle.std.proofs.Props.{props}
use Rattle.base.specs.Basics.{at}
use Rattle.network.specs.Limits.{max_nodes}
use Rattle.network.specs.code.ArcLinks.{no_link, link_to, link_at, arc_of, entry}
use Rattle.network.proofs.laws.ArcLinkLaws.{entry_some, entry_none}
use Rattle.network.specs.declared.Network.{Network}
use Rattle.network.specs.declared.arc_link.ArcLink.{ArcLink}
use Rattle.max_flow.specs.code.Ends.{OfNetwork}
use Rattle.max_flow.specs.code.Search.{grown_by}
use Rattle.max_flow.specs.code.Scan.{Inner, Placed, Looking, Fresh}
use Rattle.max_flow.proofs.code.Scan.{ready, outer_start, outer_next, placed}
use Rattle.max_flow.proofs.code.Scan.{inner_start, looking, next_full, next_held, next_new, hit_new}
use Rattle.max_flow.specs.declared.search.SearchTree.{SearchTree}
use Rattle.max_flow.proofs.ends.Ends.search.Goals as goal
use Rattle.max_flow.proofs.ends.Ends.search.Goals.{After-min, In-Some, In-search, Then-not-contains}

-- what the code relies on at the place at hand, at the arc at hand, and where that arc leads to a new node; what the
-- loop keeps, of that arc
at_place : (c : In-search) → Placed c.search.tree c.search.i
at_place c =
    ∥∥₁_elim (ready c.args.self.now) (hlevel props)
    (λ p. placed p.1.ready (c.search.invariant p.0 p.1) c.search-test.true)

before : (c : In-Some) (net : Network)
    → OfNetwork net c.args.self.now
    → Inner net c.args.residual c.args.self.now.s c.args.self.now.t c.loop-j.tree c.search.i
    (at c.search.tree.node c.search.i) (suc c.in-Some.j)
before c net a = rw (entry_some c.in-Some.ensures) at (c.loop-j.invariant net a)

at-arc : (c : In-Some)
    → Looking c.args.self.now.arcs.now.next c.args.self.now.arcs.now.to c.loop-j.tree c.search.i c.in-Some.j
at-arc c =
    ∥∥₁_elim (ready c.args.self.now) (hlevel props) (λ p. looking p.1.ready (before c p.0 p.1))

-- the links that the code reads there
abbrev firstRead : In-search → ArcLink
firstRead c = get_or c.args.self.now.arcs.now.first (at c.search.tree.node c.search.i) (link_to 0)

abbrev nextRead : In-Some → ArcLink
nextRead c = get_or c.args.self.now.arcs.now.next c.in-Some.j (link_to 0)

first-is : (c : In-search) → firstRead c ≡ link_at c.args.self.now.arcs.now.first (at c.search.tree.node c.search.i)
first-is c =
    let arcs = c.args.self.now.arcs.now in
    get_or_default arcs.first _ (link_to 0) no_link (omega (arith, arcs.first_length, (at_place c).node))

next-is : (c : In-Some) → nextRead c ≡ link_at c.args.self.now.arcs.now.next c.in-Some.j
next-is c =
    let arcs = c.args.self.now.arcs.now in
    get_or_default arcs.next _ (link_to 0) no_link (omega (arith, arcs.next_length, (at-arc c).arc))

falls : (c : In-Some) → entry (arc_of (nextRead c)) < entry (arc_of c.loop-j.link)
falls c = rw (next-is c) (omega (arith, (at-arc c).falls, entry_some c.in-Some.ensures))

-- what the loop over the arcs keeps, of a network and the link behind arc j
abbrev Kept : In-Some → Network → SearchTree → ArcLink → Type 0
Kept c net tree link =
    Inner net c.args.residual c.args.self.now.s c.args.self.now.t tree c.search.i (at c.search.tree.node c.search.i)
    (entry (arc_of link))

goes-on : (c : In-Some) (net : Network) (tree : SearchTree)
    → Kept c net tree (link_at c.args.self.now.arcs.now.next c.in-Some.j) → Kept c net tree (nextRead c)
goes-on c net tree o = rw (next-is c) o

free-lt : (c : Then-not-contains) → c.loop-j.tree.count < max_nodes
free-lt c =
    ∥∥₁_elim (ready c.args.self.now) (hlevel props)
    (λ p.
    let o = rw (entry_some c.in-Some.ensures) at (c.loop-j.invariant p.0 p.1) in
    (looking p.1.ready o).free (sym c.contains.ensures ∙ c.if-not-contains.true))

-- the tree as the code has made it, but for the word of what is reached
abbrev grownTo : After-min → ℕ → SearchTree
grownTo c = grown_by c.loop-j.tree c.search.i c.in-Some.j (at c.args.self.now.arcs.now.to c.in-Some.j) c.min.result

fresh : (c : After-min)
    → Fresh c.args.self.now.arcs.now.to c.args.residual c.loop-j.tree c.search.i c.in-Some.j (grownTo c c.add.result)
fresh c =
    record {
      amount = c.min.result;
      most = rw (← c.room-d.ensures) c.min.ensures;
      some = omega (arith, c.room-d.ensures, c.if-d-gt0.true);
      new = sym c.contains.ensures ∙ c.if-not-contains.true;
      tree = ap (grownTo c) c.add.ensures;
    }

pub search-init : goal.search-init
search-init c = λ net a. outer_start a.ready c.args.residual _ c.seed-tree.ensures

pub bounds-tree-i : goal.bounds-tree-i
bounds-tree-i c = (at_place (goal.at.bounds-tree-i c).In-search).place

pub bounds-arcs-u : goal.bounds-arcs-u
bounds-arcs-u c = (at_place (goal.at.bounds-arcs-u c).In-search).node

pub loop-j-init : goal.loop-j-init
loop-j-init c =
    λ net a.
    rw (first-is (goal.at.loop-j-init c).In-search)
    (inner_start a.ready (c.search.invariant net a) c.search-test.true)

pub contains-requires : goal.contains-requires
contains-requires c = (at-arc (goal.at.contains-requires c).In-Some).node

pub add-requires : goal.add-requires
add-requires c = (at-arc (goal.at.add-requires c).In-Some).node

pub bounds-tree-n : goal.bounds-tree-n
bounds-tree-n c = free-lt (goal.at.bounds-tree-n c).Then-not-contains

pub offset_bounds-tree-n : goal.offset_bounds-tree-n
offset_bounds-tree-n c = omega (arith, (free-lt (goal.at.offset_bounds-tree-n c).Then-not-contains))

pub bounds-tree-n-then-d-gt0 : goal.bounds-tree-n-then-d-gt0
bounds-tree-n-then-d-gt0 c = free-lt (goal.at.bounds-tree-n-then-d-gt0 c).Then-not-contains

pub overflow_cast-tree-then-d-gt0-2 : goal.overflow_cast-tree-then-d-gt0-2
overflow_cast-tree-then-d-gt0-2 c = omega (arith, at-arc (goal.at.overflow_cast-tree-then-d-gt0-2 c).In-Some)

pub bounds-tree-n-then-d-gt0-2 : goal.bounds-tree-n-then-d-gt0-2
bounds-tree-n-then-d-gt0-2 c = free-lt (goal.at.bounds-tree-n-then-d-gt0-2 c).Then-not-contains

pub offset_bounds-tree-i : goal.offset_bounds-tree-i
offset_bounds-tree-i c = omega (arith, (at-arc (goal.at.offset_bounds-tree-i c).In-Some).place)

pub bounds-tree-i-then-d-gt0 : goal.bounds-tree-i-then-d-gt0
bounds-tree-i-then-d-gt0 c = (at-arc (goal.at.bounds-tree-i-then-d-gt0 c).In-Some).place

pub offset_bounds-tree-n-then-d-gt0 : goal.offset_bounds-tree-n-then-d-gt0
offset_bounds-tree-n-then-d-gt0 c =
    omega (arith, (free-lt (goal.at.offset_bounds-tree-n-then-d-gt0 c).Then-not-contains))

pub bounds-tree-n-then-d-gt0-3 : goal.bounds-tree-n-then-d-gt0-3
bounds-tree-n-then-d-gt0-3 c = free-lt (goal.at.bounds-tree-n-then-d-gt0-3 c).Then-not-contains

pub overflow_add-tree : goal.overflow_add-tree
overflow_add-tree c = omega (arith, free-lt (goal.at.overflow_add-tree c).Then-not-contains)

pub loop-j-preserved-else-x-t : goal.loop-j-preserved-else-x-t
loop-j-preserved-else-x-t c =
    let o = before (goal.at.loop-j-preserved-else-x-t c).In-Some in
    let f = fresh (goal.at.loop-j-preserved-else-x-t c).After-min in
    λ net a.
    goes-on (goal.at.loop-j-preserved-else-x-t c).In-Some net _ (next_new a.ready (o net a) f c.if-x-t.false)

pub loop-j-preserved-else-d-gt0 : goal.loop-j-preserved-else-d-gt0
loop-j-preserved-else-d-gt0 c =
    let here = (goal.at.loop-j-preserved-else-d-gt0 c).In-Some in
    λ net a.
    goes-on here net _ (next_full a.ready (before here net a) (omega (arith, c.room-d.ensures, c.if-d-gt0.false)))

pub returns-then-x-t : goal.returns-then-x-t
returns-then-x-t c =
    let f = fresh (goal.at.returns-then-x-t c).After-min in
    λ net a. hit_new a.ready (before (goal.at.returns-then-x-t c).In-Some net a) f c.if-x-t.true

pub loop-j-smaller-else-x-t : goal.loop-j-smaller-else-x-t
loop-j-smaller-else-x-t c = falls (goal.at.loop-j-smaller-else-x-t c).In-Some

pub loop-j-smaller-else-d-gt0 : goal.loop-j-smaller-else-d-gt0
loop-j-smaller-else-d-gt0 c = falls (goal.at.loop-j-smaller-else-d-gt0 c).In-Some

pub loop-j-smaller : goal.loop-j-smaller
loop-j-smaller c = falls (goal.at.loop-j-smaller c).In-Some

pub loop-j-preserved : goal.loop-j-preserved
loop-j-preserved c =
    let held = sym c.contains.ensures ∙ c.if-not-contains.false in
    let here = (goal.at.loop-j-preserved c).In-Some in
    λ net a. goes-on here net _ (next_held a.ready (before here net a) held)

pub search-preserved : goal.search-preserved
search-preserved c =
    λ net a. outer_next a.ready (rw (entry_none c.in_default.ensures) at (c.loop-j.invariant net a))
