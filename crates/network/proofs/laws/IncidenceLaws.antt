-- Laws of the incidence lists: how they grow link by link, and what a walk along a chain meets.
use Rattle.std.proofs.Common.{◌≡◌, refl, ◌≢◌, true, set, length, replicate, sym, ap, ◌∙◌, length-set, get_or-set_same}
use Rattle.std.proofs.Common.{map, get_or-set_other, eq-eqb, ne_eqb, List, [], ◌∷◌, ℕ, zero, suc, ◌+◌, ◌-◌, ◌*◌}
use Rattle.std.proofs.Common.{◌<◌, ◌≤◌, arith}
use Rattle.std.proofs.Math.Decide.{ℕ_discrete}
use Rattle.min_cut.specs.Cut.{Net}
use Rattle.min_cut.specs.code.Arcs.{tail, tip}
use Rattle.min_cut.proofs.code.Arcs.{tail0, tail1, tip0, tip1}
use Rattle.base.specs.Basics.{at}
use Rattle.network.specs.Limits.{max_nodes, max_arcs}
use Rattle.network.specs.Network.{network_fits, graph}
use Rattle.network.proofs.laws.NetworkLaws.{nodes_le, links_le, ends_within}
use Rattle.network.specs.code.ArcLinks.{no_link, link_to, link_at, arc_of, entry, entry_at}
use Rattle.network.proofs.laws.ArcLinkLaws.{entry_to}
use Rattle.network.specs.code.Incidence.{Leaves, Chains, arcs_from, walk}
use Rattle.network.specs.declared.Network.{Network}
use Rattle.network.specs.declared.arc_link.ArcLink.{ArcLink}

-- ---- how they grow
none_at : (n u : ℕ) → entry_at (replicate n no_link) u ≡ 0
unfolding entry
none_at zero u = refl
none_at (suc n) zero = refl
none_at (suc n) (suc u) = none_at n u

-- the chains of the arcs below j, in arrays that have a place for every node and arc
pub record Built (net : Network) (j : ℕ) (first next : List ArcLink) (to : List ℕ) : Type 0 where
  pub chains : Chains net j first next to
  pub nodes : length first ≡ max_nodes
  pub arcs : length next ≡ max_arcs
  pub tips : length to ≡ max_arcs

pub built_none : (net : Network)
    → Built net 0 (replicate max_nodes no_link) (replicate max_arcs no_link) (replicate max_arcs 0)
built_none net =
    record {
      chains =
          record {
            first_leaves = λ u l.
                let none = none_at max_nodes u in
                record { under = omega (arith, none); from = λ p. absurd (omega (arith, none)) };
            first_last = λ e l. absurd (omega arith);
            next_leaves = λ e l. absurd (omega arith);
            next_last = λ e i l. absurd (omega arith);
            leads = λ e l. absurd (omega arith);
          };
      nodes = refl;
      arcs = refl;
      tips = refl;
    }

-- arc j more, from u to v
module _ (net : Network) (h : network_fits net ≡ true) (j u v : ℕ) (first next : List ArcLink) (to : List ℕ)
    (o : Built net j first next to)
    (l : j < 2 * net.links)
    (eu : tail (graph net) j ≡ u) (ev : tip (graph net) j ≡ v) (lu : u < net.nodes) where
  abbrev c : Chains net j first next to
  c = o.chains

  abbrev first' : List ArcLink
  first' = set first u (link_to j)

  abbrev next' : List ArcLink
  next' = set next j (link_at first u)

  abbrev to' : List ℕ
  to' = set to j v

  first_u : entry_at first' u ≡ j + 1
  first_u =
      let here = get_or-set_same first u (link_to j) no_link (omega (arith, o.nodes, nodes_le net h)) in
      rw here (omega (arith, entry_to j (omega (arith, links_le net h))))

  next_j : entry_at next' j ≡ entry_at first u
  next_j = rw (get_or-set_same next j (link_at first u) no_link (omega (arith, o.arcs, links_le net h)))

  to_j : at to' j ≡ v
  to_j = get_or-set_same to j v 0 (omega (arith, o.tips, links_le net h))

  first_leaves' : (x : ℕ) → x < net.nodes → Dec (x ≡ u) → Leaves net x (j + 1) (entry_at first' x)
  first_leaves' x lx (yes e) = rw (e, first_u) (record { under = omega arith; from = λ p. ap (tail (graph net)) (add_sub j) ∙ eu })
    where
      add_sub : (j : ℕ) → j + 1 - 1 ≡ j
      add_sub j = omega arith
  first_leaves' x lx (no d) =
      let old : Leaves net x j (entry_at first x) = c.first_leaves x lx in
      rw (get_or-set_other first u x (link_to j) no_link d) (record { under = omega arith; from = old.from })

  first_last' : (e : ℕ) → e < j + 1 → Dec (tail (graph net) e ≡ u) → Dec (e ≡ j)
      → e < entry_at first' (tail (graph net) e)
  first_last' e le (yes d) q = rw (d, first_u) le
  first_last' e le (no d) (yes q) = absurd (d (ap (tail (graph net)) q ∙ eu))
  first_last' e le (no d) (no q) =
      rw (get_or-set_other first u (tail (graph net) e) (link_to j) no_link d)
      (c.first_last e (omega arith))

  next_leaves' : (e : ℕ) → e < j + 1 → Dec (e ≡ j) → Leaves net (tail (graph net) e) e (entry_at next' e)
  next_leaves' e le (yes q) = rw (q, next_j, eu) (c.first_leaves u lu)
  next_leaves' e le (no q) =
      rw (get_or-set_other next j e (link_at first u) no_link q) (c.next_leaves e (omega arith))

  next_last' : (e i : ℕ) → e < j + 1 → i < e → tail (graph net) i ≡ tail (graph net) e → Dec (e ≡ j)
      → i < entry_at next' e
  next_last' e i le li d (yes q) =
      let f : tail (graph net) i ≡ u = d ∙ ap (tail (graph net)) q ∙ eu in
      rw (q, next_j) (rw f at (c.first_last i (omega arith)))
  next_last' e i le li d (no q) =
      rw (get_or-set_other next j e (link_at first u) no_link q)
      (c.next_last e i (omega arith) li d)

  leads' : (e : ℕ) → e < j + 1 → Dec (e ≡ j) → at to' e ≡ tip (graph net) e
  leads' e le (yes q) = rw (q, to_j) (sym ev)
  leads' e le (no q) = rw (get_or-set_other to j e v 0 q) (c.leads e (omega arith))

  built_arc : Built net (j + 1) first' next' to'
  built_arc =
      record {
        chains =
            record {
              first_leaves = λ x lx. first_leaves' x lx (ℕ_discrete x u);
              first_last = λ e le. first_last' e le (ℕ_discrete (tail (graph net) e) u) (ℕ_discrete e j);
              next_leaves = λ e le. next_leaves' e le (ℕ_discrete e j);
              next_last = λ e i le li d. next_last' e i le li d (ℕ_discrete e j);
              leads = λ e le. leads' e le (ℕ_discrete e j);
            };
        nodes = length-set first u (link_to j) ∙ o.nodes;
        arcs = length-set next j (link_at first u) ∙ o.arcs;
        tips = length-set to j v ∙ o.tips;
      }

-- the two arcs of link k more, there and back: f, n and t stand between them
pub built_link : (net : Network) → network_fits net ≡ true → (k : ℕ) (first next f n f' n' : List ArcLink)
    (to t t' : List ℕ)
    → Built net (2 * k) first next to → k < net.links
    → f ≡ set first (at net.a k) (link_to (2 * k)) → n ≡ set next (2 * k) (link_at first (at net.a k))
    → t ≡ set to (2 * k) (at net.b k)
    → f' ≡ set f (at net.b k) (link_to (2 * k + 1)) → n' ≡ set n (2 * k + 1) (link_at f (at net.b k))
    → t' ≡ set t (2 * k + 1) (at net.a k)
    → Built net (2 * (k + 1)) f' n' t'
built_link net h k first next f n f' n' to t t' o l ef en et ef' en' et' = rw (ef', en', et', ← even)
    (built_arc net h (2 * k + 1) (at net.b k) (at net.a k) f n t there (omega arith) (tail1 (graph net) id id k)
    (tip1 (graph net) id id k) (ends_within net h k l).1)
  where
    even : 2 * k + 1 + 1 ≡ 2 * (k + 1)
    even = omega arith

    -- the residual capacities that the laws of arcs also speak of
    id : ℕ → ℕ
    id i = i

    there : Built net (2 * k + 1) f n t
    there =
        rw (ef, en, et)
        (built_arc net h (2 * k) (at net.a k) (at net.b k) first next to o (omega arith) (tail0 (graph net) id id k)
        (tip0 (graph net) id id k) (ends_within net h k l).0)

-- ---- what walking is worth
-- one more than each arc, or 0 for none
abbrev pub entries : List ArcLink → List ℕ
entries = map (λ link. entry (arc_of link))

module _ (G : Net) (u : ℕ) where
  arcs_here : (e : ℕ) → tail G e ≡ u → arcs_from G u (suc e) ≡ e ∷ arcs_from G u e
  unfolding arcs_from
  arcs_here e q = rw (eq-eqb (tail G e) u q)

  arcs_behind : (e : ℕ) → tail G e ≢ u → arcs_from G u (suc e) ≡ arcs_from G u e
  unfolding arcs_from
  arcs_behind e q = rw (ne_eqb (tail G e) u q)

  -- past the last arc that leaves u there is nothing to add
  arcs_last : (j x : ℕ) → x ≤ j → ((e : ℕ) → e < j → tail G e ≡ u → e < x) → arcs_from G u j ≡ arcs_from G u x
  arcs_last zero x l h = ap (arcs_from G u) (omega arith)
  arcs_last (suc i) x l h = go (ℕ_discrete x (suc i)) (λ l. arcs_last i x l (λ e le. h e (omega arith)))
    where
      go : Dec (x ≡ suc i) → (x ≤ i → arcs_from G u i ≡ arcs_from G u x) → arcs_from G u (suc i) ≡ arcs_from G u x
      go (yes q) ih = ap (arcs_from G u) (sym q)
      go (no q) ih = arcs_behind i (λ t. absurd (omega (arith, h i (omega arith) t))) ∙ ih (omega arith)

-- behind the end there is none, as at 0
entry_read : (links : List ArcLink) (e : ℕ) → at (entries links) e ≡ entry_at links e
unfolding entry
entry_read [] e = refl
entry_read (x ∷ links) zero = refl
entry_read (x ∷ links) (suc e) = entry_read links e

module _ (net : Network) (j : ℕ) (first next : List ArcLink) (to : List ℕ) (c : Chains net j first next to) where
  -- from x, one more than the last arc below i that leaves u
  walk_on : (most u i x : ℕ) → i ≤ j → x ≤ most → Leaves net u i x → ((e : ℕ) → e < i → tail (graph net) e ≡ u → e < x)
      → walk most (entries next) x ≡ arcs_from (graph net) u i
  unfolding walk arcs_from
  walk_on zero u i x li lx o h = sym (arcs_last (graph net) u i 0 (omega arith) (λ e le q. absurd (omega (arith, h e le q))))
  walk_on (suc most) u i zero li lx o h = sym (arcs_last (graph net) u i 0 (omega arith) h)
  walk_on (suc most) u i (suc e) li lx o h =
      let q : tail (graph net) e ≡ u = ap (tail (graph net)) (omega arith) ∙ o.from (omega arith) in
      let l : e < j = omega arith in
      let behind : Leaves net u e (entry_at next e) = rw q at (c.next_leaves e l) in
      let ih : walk most (entries next) (entry_at next e) ≡ arcs_from (graph net) u e =
      walk_on most u e (entry_at next e) (omega arith) (omega arith) behind
      (λ d ld t. c.next_last e d l ld (t ∙ sym q)) in
      rw (entry_read next e) (ap (λ (es : List ℕ). e ∷ es) ih) ∙ sym (arcs_here (graph net) u e q)
      ∙ sym (arcs_last (graph net) u i (suc e) o.under h)

  -- a walk from `first` at u meets each arc that leaves u, once, in falling order, and no other
  pub walk_meets : (most u : ℕ) → j ≤ most → u < net.nodes
      → walk most (entries next) (entry_at first u) ≡ arcs_from (graph net) u j
  walk_meets most u l lu =
      walk_on most u j (entry_at first u) (omega arith) (omega (arith, c.first_leaves u lu)) (c.first_leaves u lu)
      (λ e le q. rw q at (c.first_last e le))
