-- What holds of the definitions of specs/code/Scan.antt.
use Rattle.std.proofs.Common.{◌≡◌, refl, true, false, List, [], ℕ, suc, ◌+◌, ◌*◌, ◌/◌, ◌%◌, ◌<◌, ◌≤◌, get_or, sym, ap}
use Rattle.std.proofs.Common.{subst, ◌∙◌, true≢false, arith}
use Rattle.std.proofs.Math.Decide.{ℕ_discrete, dec_lt}
use Rattle.std.proofs.Math.Logic.{∥∥₁_map}
use Rattle.base.specs.Word.{holds}
use Rattle.min_cut.specs.code.Arcs.{tail, tip}
use Rattle.base.specs.Basics.{at}
use Rattle.network.specs.Network.{network_fits, graph}
use Rattle.network.proofs.laws.NetworkLaws.{nodes_le, links_le}
use Rattle.network.specs.code.ArcLinks.{entry_at}
use Rattle.network.specs.code.Incidence.{Chains, Leaves}
use Rattle.network.specs.declared.Network.{Network}
use Rattle.network.specs.declared.arc_link.ArcLink.{ArcLink}
use Rattle.node_set.specs.Set.{empty, added}
use Rattle.node_set.proofs.theorems.Members.{holds_empty, added_same, added_other}
use Rattle.max_flow.specs.code.Residuals.{full_residual, room_on}
use Rattle.max_flow.proofs.laws.ResidualLaws.{spare_read}
use Rattle.max_flow.specs.code.Search.{seed_of, Ready, Searched}
use Rattle.max_flow.proofs.laws.SearchLaws.{Visited, visited_old, visited_new}
use Rattle.max_flow.proofs.laws.SearchLaws.{seed_tree, inside, place_lt, node_lt, free, tip_lt}
use Rattle.max_flow.specs.declared.ends.Ends.{Ends}
use Rattle.max_flow.specs.declared.search.SearchTree.{SearchTree}
use Rattle.max_flow.specs.code.Ends.{OfNetwork}
use Rattle.max_flow.specs.code.Scan.{Done, Fresh, Inner, Looking, Outer, Placed}

-- the fact of `Ends`, of a network at hand; and what it says, in the words of contracts
pub two_of : {net : Network} {first next : List ArcLink} {to : List ℕ} {s t : ℕ} {full : List (List ℕ)}
    → Ready net first next to s t → full ≡ full_residual net
    → ∥ ((net : Network) × Ready net first next to s t × (full ≡ full_residual net)) ∥₁
two_of {net} a e = ∣ (net, a, e) ∣₁

pub ready : (ends : Ends) → ∥ ((net : Network) × OfNetwork net ends) ∥₁
ready ends = ∥∥₁_map ends.two (λ p. (p.0, record { ready = p.1; unsent = p.2 }))

module _ {net : Network} {first next : List ArcLink} {to : List ℕ} {s t : ℕ} (a : Ready net first next to s t) where
  h : network_fits net ≡ true
  h = a.ends.fits

  c : Chains net (2 * net.links) first next to
  c = a.chains

  -- ---- the loop over the places
  pub outer_start : (r : List (List ℕ)) (w : SearchTree) → w ≡ seed_of s → Outer net r s t w 0
  outer_start r w e =
      rw e
      (record {
        tree = seed_tree net r s a.ends.source;
        missed = added_other empty s t (λ q. a.ends.apart (sym q)) ∙ holds_empty t;
        behind = λ k q. absurd (omega arith);
      })

  module _ {r : List (List ℕ)} {w : SearchTree} {i : ℕ} (o : Outer net r s t w i) where
    pub outer_end : w.count ≤ i → Searched net r s t w
    outer_end l =
        record {
          tree = o.tree;
          hit = λ q. absurd (true≢false (sym q ∙ o.missed));
          miss = λ q e el z y.
              let k = o.tree.listed (tail (graph net) e) y in
              o.behind k.0 (omega (arith, k.1)) e el (omega arith) (sym k.2) z;
        }

    pub placed : i < w.count → Placed w i
    placed l =
        record { place = place_lt o.tree h i l; node = node_lt o.tree h i l }

    pub inner_start : i < w.count → Inner net r s t w i (at w.node i) (entry_at first (at w.node i))
    inner_start l =
        record {
          outer = o;
          here = l;
          node = refl;
          chain = c.first_leaves (at w.node i) (inside o.tree (at w.node i) (o.tree.held i l));
          done = λ j jl q d z. absurd (omega (arith, rw d at (c.first_last j jl)));
        }

  -- i is done
  pub outer_next : {r : List (List ℕ)} {w : SearchTree} {i u : ℕ} → Inner net r s t w i u 0 → Outer net r s t w (i + 1)
  outer_next {r} {w} {i} o =
      record {
        tree = o.outer.tree;
        missed = o.outer.missed;
        behind = λ k l. go k l (ℕ_discrete k i);
      }
    where
      go : (k : ℕ) → k < i + 1 → Dec (k ≡ i) → Done net r w (at w.node k) 0
      go k l (yes e) = rw (e, o.node) o.done
      go k l (no d) = o.outer.behind k (omega arith)

  -- ---- the loop over a node's arcs: arc j is looked at
  module _ {r : List (List ℕ)} {w : SearchTree} {i u j : ℕ} (o : Inner net r s t w i u (suc j)) where
    el : j < 2 * net.links
    el = omega (arith, o.chain.under)

    leaves_u : tail (graph net) j ≡ u
    leaves_u = ap (tail (graph net)) (omega arith) ∙ o.chain.from (omega arith)

    et : tail (graph net) j ≡ at w.node i
    et = leaves_u ∙ sym o.node

    leads_to_lem : at to j ≡ tip (graph net) j
    leads_to_lem = c.leads j el

    abbrev x : ℕ
    x = at to j

    x_lt : at to j < net.nodes
    x_lt = rw leads_to_lem (tip_lt net h j el)

    pub looking : Looking next to w i j
    looking =
        record {
          arc = omega (arith, el, links_le net h);
          node = omega (arith, x_lt, nodes_le net h);
          place = place_lt o.outer.tree h i o.here;
          free = λ new. omega (arith, free o.outer.tree (at to j) x_lt new, nodes_le net h);
          falls = omega (arith, (c.next_leaves j el).under);
        }

    inner_next : {w' : SearchTree} → Visited net r s w j w' → holds w'.reached t ≡ false
        → Inner net r s t w' i u (entry_at next j)
    inner_next {w'} seen q =
        record {
          outer =
              record {
                tree = seen.tree;
                missed = q;
                behind = λ k l m ml z y q1.
                    seen.keeps (tip (graph net) m)
                    (o.outer.behind k l m ml z (y ∙ seen.keeps_node k (omega (arith, o.here))) q1);
              };
          here = omega (arith, seen.more, o.here);
          node = seen.keeps_node i o.here ∙ o.node;
          chain = record { under = omega (arith, n.under, el); from = λ q1. n.from q1 ∙ leaves_u };
          done = λ m ml z y q1. go m ml z y q1 (dec_lt m (suc j)) (ℕ_discrete m j);
        }
      where
        n : Leaves net (tail (graph net) j) j (entry_at next j)
        n = c.next_leaves j el

        go : (m : ℕ) → m < 2 * net.links → entry_at next j ≤ m → tail (graph net) m ≡ u → 0 < room_on r m
            → Dec (m < suc j) → Dec (m ≡ j) → holds w'.reached (tip (graph net) m) ≡ true
        go m ml z y q1 (no b) d = seen.keeps (tip (graph net) m) (o.done m ml (omega arith) y q1)
        go m ml z y q1 (yes b) (yes d) =
            ap (λ m. holds w'.reached (tip (graph net) m)) d ∙ seen.takes (subst (λ m. 0 < room_on r m) d q1)
        go m ml z y q1 (yes b) (no d) = absurd (omega (arith, c.next_last j m el (omega arith) (y ∙ sym leaves_u)))

    -- it has no room
    pub next_full : get_or (get_or r (j / 2) []) (j % 2) 0 ≤ 0 → Inner net r s t w i u (entry_at next j)
    next_full q =
        let full = visited_old o.outer.tree j (λ z. absurd (omega (arith, spare_read r j))) in
        inner_next full o.outer.missed

    -- it leads to a node that is reached
    pub next_held : holds w.reached x ≡ true → Inner net r s t w i u (entry_at next j)
    next_held q =
        let held = visited_old o.outer.tree j (λ z. ap (holds w.reached) (sym leads_to_lem) ∙ q) in
        inner_next held o.outer.missed

    -- it leads to a new one
    module _ {w' : SearchTree} (f : Fresh to r w i j w') where
      seen : Visited net r s w j w'
      seen =
          let most = rw spare_read at f.most in
          let some = rw spare_read at f.some in
          rw f.tree
          (visited_new o.outer.tree j h i o.here el et x f.amount leads_to_lem most some f.new)

      holds_new : (y : ℕ) → holds w'.reached y ≡ holds (added w.reached x) y
      holds_new y = ap (λ (v : SearchTree). holds v.reached y) f.tree

      pub next_new : (x ≡ t → ⊥) → Inner net r s t w' i u (entry_at next j)
      next_new z = inner_next seen (holds_new t ∙ added_other w.reached x t (λ y. z (sym y)) ∙ o.outer.missed)

      -- to t
      pub hit_new : x ≡ t → Searched net r s t w'
      hit_new z =
          let same = ap (holds (added w.reached x)) (sym z) ∙ added_same w.reached x in
          let y : holds w'.reached t ≡ true = holds_new t ∙ same in
          record {
            tree = seen.tree;
            hit = λ g. seen.last t g o.outer.missed;
            miss = λ g. absurd (true≢false (sym y ∙ g));
          }
