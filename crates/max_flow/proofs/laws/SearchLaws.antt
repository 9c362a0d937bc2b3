-- Laws of search trees: what a tree from s gives, its seed, and one node more.
use Rattle.std.proofs.Common.{◌≡◌, refl, ◌≢◌, Bool, true, false, cond, List, ℕ, zero, suc, ◌+◌, ◌-◌, ◌*◌, ◌/◌, ◌<◌}
use Rattle.std.proofs.Common.{◌≤◌, length, set, replicate, min, sym, ap, ◌∙◌, true≢false, arith, length-set}
use Rattle.std.proofs.Common.{get_or-set_same, get_or-set_other}
use Rattle.std.proofs.Math.Decide.{ℕ_discrete}
use Rattle.std.proofs.lemmas.List.{length-replicate, get_or-replicate}
use Rattle.min_cut.specs.Cut.{Side, ◌⊆◌}
use Rattle.base.specs.Word.{holds}
use Rattle.min_cut.specs.code.Arcs.{tail, tip, forward, Shut}
use Rattle.base.specs.Basics.{at}
use Rattle.network.specs.Limits.{max_nodes}
use Rattle.network.specs.Network.{network_fits, graph}
use Rattle.network.proofs.laws.NetworkLaws.{nodes_le, ends_within}
use Rattle.network.specs.declared.Network.{Network}
use Rattle.node_set.specs.Set.{empty, added}
use Rattle.node_set.proofs.theorems.Members.{holds_empty, empty_lt, added_same, added_other, added_keeps, added_lt}
use Rattle.node_set.proofs.laws.SizeLaws.{size_le, size_empty, size_added, member_lt}
use Rattle.max_flow.specs.GrowingFlow.{ahead, back}
use Rattle.max_flow.specs.code.Residuals.{room_on}
use Rattle.max_flow.specs.code.Search.{seed_of, grown, Entered, TreeFrom}
use Rattle.max_flow.specs.declared.search.SearchTree.{SearchTree}

module _ {net : Network} {r : List (List ℕ)} {s : ℕ} {w : SearchTree} (f : TreeFrom net r s w) where
  few : w.count ≤ net.nodes
  few = omega (arith, size_le net.nodes w.reached, f.many)

  pub inside : (x : ℕ) → holds w.reached x ≡ true → x < net.nodes
  inside x = member_lt net.nodes w.reached x f.under

  pub place_lt : network_fits net ≡ true → (i : ℕ) → i < w.count → i < max_nodes
  place_lt h i l = omega (arith, few, nodes_le net h)

  pub node_lt : network_fits net ≡ true → (i : ℕ) → i < w.count → at w.node i < max_nodes
  node_lt h i l = omega (arith, inside (at w.node i) (f.held i l), nodes_le net h)

  -- a node that is not reached yet finds a place
  pub free : (x : ℕ) → x < net.nodes → holds w.reached x ≡ false → w.count < net.nodes
  free x l h =
      omega (
        arith,
        size_le net.nodes (added w.reached x),
        size_added net.nodes w.reached x l h,
        f.many,
      )

  -- every side that holds s, and that no arc with room leaves, holds what is reached: by induction along `from`
  pub contained : (Y : Side) → Shut (graph net) (ahead r) (back r) Y → Y s ≡ true → holds w.reached ⊆ Y
  contained Y shut ys x h =
      let p = f.listed x h in
      ap Y (sym p.2) ∙ below (suc p.0) p.0 (omega arith) p.1
    where
      below : (n i : ℕ) → i < n → i < w.count → Y (at w.node i) ≡ true
      below zero i l c = absurd (omega arith)
      below (suc n) zero l c = ap Y f.root ∙ ys
      below (suc n) (suc i) l c =
          let q : Entered net r w (suc i) = f.entered (suc i) (omega arith) c in
          ap Y (sym q.leads) ∙ shut (at w.arc (suc i)) q.here (omega (arith, q.fits, f.flows (suc i) c))
          (ap Y q.starts ∙ below n (at w.from (suc i)) (omega (arith, q.earlier)) (omega (arith, q.earlier)))

-- ---- the seed
module _ (net : Network) (r : List (List ℕ)) (s : ℕ) (l : s < net.nodes) where
  node_at : (i : ℕ) → i < max_nodes → at (seed_of s).node i ≡ s
  node_at i q = get_or-replicate max_nodes i s 0 q

  bottleneck_at : (i : ℕ) → i < max_nodes → at (seed_of s).bottleneck i ≡ 4294967295
  bottleneck_at i q = let z : ℕ = 4294967295 in get_or-replicate max_nodes i z 0 q

  long : (x : ℕ) → length (replicate max_nodes x) ≡ max_nodes
  long x = length-replicate max_nodes x

  listed_one : (x : ℕ) → holds (added empty s) x ≡ true → (i : ℕ) × (i < 1) × (at (seed_of s).node i ≡ x)
  listed_one x q = go (ℕ_discrete x s)
    where
      go : Dec (x ≡ s) → (i : ℕ) × (i < 1) × (at (seed_of s).node i ≡ x)
      go (yes e) = (0, omega arith, sym e)
      go (no d) = absurd (true≢false (sym q ∙ added_other empty s x d ∙ holds_empty x))

  pub seed_tree : TreeFrom net r s (seed_of s)
  seed_tree =
      record {
        sizes = record { nodes = long s; arcs = long 0; froms = long 0; bottlenecks = long 4294967295 };
        some = omega arith;
        many = omega (arith, size_added net.nodes empty s l (holds_empty s), size_empty net.nodes);
        under = added_lt net.nodes empty s (empty_lt net.nodes) l;
        root = refl;
        held = λ i q. rw (node_at i (omega arith)) (added_same empty s);
        listed = listed_one;
        differ = λ i j p q. absurd (omega arith);
        entered = λ i p q. absurd (omega arith);
        flows = λ i q. rw (bottleneck_at i (omega arith)) (omega arith);
      }

-- ---- one node more: x, by arc e from place i, to which d can be sent
module _ {net : Network} {r : List (List ℕ)} {s : ℕ} {w : SearchTree} (h : network_fits net ≡ true)
    (f : TreeFrom net r s w) (i e x d : ℕ) (il : i < w.count) (el : e < 2 * net.links)
    (et : tail (graph net) e ≡ at w.node i) (ex : tip (graph net) e ≡ x) (xl : x < net.nodes)
    (new : holds w.reached x ≡ false) (some_d : 0 < d) (fits_d : d ≤ room_on r e)
    (falls_d : d ≤ at w.bottleneck i) where
  abbrev w' : SearchTree
  w' = grown w i e x d

  spare_left : w.count < max_nodes
  spare_left = omega (arith, free f x xl new, nodes_le net h)

  -- what stands at the new place, and what stands at another
  node_new : at w'.node w.count ≡ x
  node_new = get_or-set_same w.node w.count x 0 (omega (arith, f.sizes.nodes, spare_left))

  arc_new : at w'.arc w.count ≡ e
  arc_new = get_or-set_same w.arc w.count e 0 (omega (arith, f.sizes.arcs, spare_left))

  from_new : at w'.from w.count ≡ i
  from_new = get_or-set_same w.from w.count i 0 (omega (arith, f.sizes.froms, spare_left))

  bottleneck_new : at w'.bottleneck w.count ≡ d
  bottleneck_new = get_or-set_same w.bottleneck w.count d 0 (omega (arith, f.sizes.bottlenecks, spare_left))

  node_old : (k : ℕ) → k < w.count → at w'.node k ≡ at w.node k
  node_old k l = get_or-set_other w.node w.count k x 0 (λ q. omega arith)

  arc_old : (k : ℕ) → k < w.count → at w'.arc k ≡ at w.arc k
  arc_old k l = get_or-set_other w.arc w.count k e 0 (λ q. omega arith)

  from_old : (k : ℕ) → k < w.count → at w'.from k ≡ at w.from k
  from_old k l = get_or-set_other w.from w.count k i 0 (λ q. omega arith)

  bottleneck_old : (k : ℕ) → k < w.count → at w'.bottleneck k ≡ at w.bottleneck k
  bottleneck_old k l = get_or-set_other w.bottleneck w.count k d 0 (λ q. omega arith)

  held' : (k : ℕ) → k < w.count + 1 → Dec (k ≡ w.count) → holds w'.reached (at w'.node k) ≡ true
  held' k l (yes q) = rw (q, node_new) (added_same w.reached x)
  held' k l (no q) =
      rw (node_old k (omega arith)) (added_keeps w.reached x (at w.node k) (f.held k (omega arith)))

  listed' : (y : ℕ) → holds w'.reached y ≡ true → Dec (y ≡ x) → (k : ℕ) × (k < w.count + 1) × (at w'.node k ≡ y)
  listed' y q (yes e) = (w.count, omega arith, node_new ∙ sym e)
  listed' y q (no d) =
      let p = f.listed y (sym (added_other w.reached x y d) ∙ q) in
      (p.0, omega (arith, p.1), node_old p.0 p.1 ∙ p.2)

  differ' : (k j : ℕ) → k < j → j < w.count + 1 → Dec (j ≡ w.count) → at w'.node k ≢ at w'.node j
  differ' k j l m (yes q) z =
      let y : at w.node k ≡ x = sym (node_old k (omega arith)) ∙ z ∙ ap (at w'.node) q ∙ node_new in
      true≢false (sym (f.held k (omega arith)) ∙ ap (holds w.reached) y ∙ new)
  differ' k j l m (no q) z =
      f.differ k j l (omega arith) (sym (node_old k (omega arith)) ∙ z ∙ node_old j (omega arith))

  entered_new : Entered net r w' w.count
  entered_new =
      record {
        earlier = rw from_new il;
        here = rw arc_new el;
        starts = rw (arc_new, from_new, node_old i il) et;
        leads = rw (arc_new, node_new) ex;
        fits = rw (arc_new, bottleneck_new) fits_d;
        falls = rw (from_new, bottleneck_new, bottleneck_old i il) falls_d;
      }

  entered_old : (k : ℕ) → 0 < k → k < w.count → Entered net r w' k
  entered_old k p l =
      let o : Entered net r w k = f.entered k p l in
      let b : at w.from k < w.count = omega (arith, o.earlier) in
      record {
        earlier = rw (from_old k l) o.earlier;
        here = rw (arc_old k l) o.here;
        starts = rw (arc_old k l, from_old k l, node_old (at w.from k) b) o.starts;
        leads = rw (arc_old k l, node_old k l) o.leads;
        fits = rw (arc_old k l, bottleneck_old k l) o.fits;
        falls = rw (from_old k l, bottleneck_old k l, bottleneck_old (at w.from k) b) o.falls;
      }

  entered' : (k : ℕ) → 0 < k → k < w.count + 1 → Dec (k ≡ w.count) → Entered net r w' k
  entered' k p l (yes q) = rw q entered_new
  entered' k p l (no q) = entered_old k p (omega arith)

  flows' : (k : ℕ) → k < w.count + 1 → Dec (k ≡ w.count) → 0 < at w'.bottleneck k
  flows' k l (yes q) = rw (q, bottleneck_new) some_d
  flows' k l (no q) = rw (bottleneck_old k (omega arith)) (f.flows k (omega arith))

  grown_tree : TreeFrom net r s (grown w i e x d)
  grown_tree =
      record {
        sizes =
            record {
              nodes = length-set w.node w.count x ∙ f.sizes.nodes;
              arcs = length-set w.arc w.count e ∙ f.sizes.arcs;
              froms = length-set w.from w.count i ∙ f.sizes.froms;
              bottlenecks = length-set w.bottleneck w.count d ∙ f.sizes.bottlenecks;
            };
        some = omega arith;
        many = omega (arith, size_added net.nodes w.reached x xl new, f.many);
        under = added_lt net.nodes w.reached x f.under xl;
        root = node_old 0 f.some ∙ f.root;
        held = λ k l. held' k l (ℕ_discrete k w.count);
        listed = λ y q. listed' y q (ℕ_discrete y x);
        differ = λ k j l m. differ' k j l m (ℕ_discrete j w.count);
        entered = λ k p l. entered' k p l (ℕ_discrete k w.count);
        flows = λ k l. flows' k l (ℕ_discrete k w.count);
      }

  last_new : at w'.node (w.count + 1 - 1) ≡ x
  last_new = let one : w.count + 1 - 1 ≡ w.count = omega arith in rw one node_new

-- ---- one arc more is looked at
-- w' is w with what arc e leads to, if the arc has room
pub record Visited (net : Network) (r : List (List ℕ)) (s : ℕ) (w : SearchTree) (e : ℕ) (w' : SearchTree) : Type 0 where
  pub tree : TreeFrom net r s w'
  pub more : w.count ≤ w'.count
  pub keeps_node : (i : ℕ) → i < w.count → at w'.node i ≡ at w.node i
  pub keeps : (x : ℕ) → holds w.reached x ≡ true → holds w'.reached x ≡ true
  pub takes : 0 < room_on r e → holds w'.reached (tip (graph net) e) ≡ true
  pub last : (x : ℕ) → holds w'.reached x ≡ true → holds w.reached x ≡ false → at w'.node (w'.count - 1) ≡ x

pub tip_lt : (net : Network) → network_fits net ≡ true → (e : ℕ) → e < 2 * net.links → tip (graph net) e < net.nodes
unfolding tip
tip_lt net h e l = go (forward e)
  where
    go : (f : Bool) → cond f (at net.b (e / 2)) (at net.a (e / 2)) < net.nodes
    go true = (ends_within net h (e / 2) (omega arith)).1
    go false = (ends_within net h (e / 2) (omega arith)).0

module _ {net : Network} {r : List (List ℕ)} {s : ℕ} {w : SearchTree} (f : TreeFrom net r s w) (e : ℕ) where
  -- it leads to no new node
  pub visited_old : (0 < room_on r e → holds w.reached (tip (graph net) e) ≡ true) → Visited net r s w e w
  visited_old q =
      record {
        tree = f;
        more = omega arith;
        keeps_node = λ k l. refl;
        keeps = λ y p. p;
        takes = q;
        last = λ y p o. absurd (true≢false (sym p ∙ o));
      }

  -- it leads to x, which is new
  pub visited_new : network_fits net ≡ true → (i : ℕ) → i < w.count → e < 2 * net.links
      → tail (graph net) e ≡ at w.node i → (x d : ℕ) → x ≡ tip (graph net) e
      → d ≡ min (room_on r e) (at w.bottleneck i) → 0 < room_on r e → holds w.reached x ≡ false
      → Visited net r s w e (grown w i e x d)
  visited_new h i il el et x d ex ed p new =
      record {
        tree = given.0;
        more = omega arith;
        keeps_node = λ k l. get_or-set_other w.node w.count k x 0 (λ q. omega arith);
        keeps = added_keeps w.reached x;
        takes = λ z. rw (← ex) (added_same w.reached x);
        last = λ y q o. go y q o (ℕ_discrete y x);
      }
    where
      given : TreeFrom net r s (grown w i e x d) × (at (set w.node w.count x) (w.count + 1 - 1) ≡ x)
      given =
          let xl : x < net.nodes = omega (arith, ex, tip_lt net h e el) in
          let some : 0 < d = omega (arith, p, f.flows i il, ed) in
          let fits : d ≤ room_on r e = omega (arith, ed) in
          let falls : d ≤ at w.bottleneck i = omega (arith, ed) in (
            grown_tree h f i e x d il el et (sym ex) xl new some fits falls,
            last_new h f i e x d il el et (sym ex) xl new some fits falls,
          )

      go : (y : ℕ) → holds (added w.reached x) y ≡ true → holds w.reached y ≡ false → Dec (y ≡ x)
          → at (set w.node w.count x) (w.count + 1 - 1) ≡ y
      go y q o (yes z) = given.1 ∙ sym z
      go y q o (no z) = absurd (true≢false (sym q ∙ added_other w.reached x y z ∙ o))
