-- A network's file is read back, within any limits of which each number has room in the groups.
use Rattle.std.specs.Prelude.{ℕ, zero, suc, ◌+◌, ◌-◌, ◌^◌, ◌≤◌, ◌<◌, List, [], ◌++◌, length, take, drop, set, replicate, ◌≡◌, ◌≢◌, true}
use Rattle.std.proofs.Common.{refl, sym, ap, ◌∙◌, arith, lt-ltb, le-ltb, ne_eqb, append_assoc, append-nil, length-append, length-drop}
use Rattle.std.proofs.Common.{take-append-drop, drop_at, take-suc, length-take-le}
use Rattle.std.proofs.Math.Decide.{ℕ_discrete}
use Rattle.std.proofs.lemmas.List.{set_at}
use Rattle.std.proofs.Math.Seq.{append_snoc}
use Rattle.base.specs.Basics.{at, blank}
use Rattle.base.proofs.laws.TestLaws.{shown, head, rest}
use Rattle.network.specs.Limits.{max_nodes, max_links}
use Rattle.network.specs.Network.{network_fits, WithinLimits}
use Rattle.network.proofs.laws.NetworkLaws.{nodes_pos, nodes_le, links_le, ends_within, ends_differ}
use Rattle.network.specs.declared.Network.{Network}
use Rattle.network_file.specs.Number.{group_bytes}
use Rattle.network_file.specs.Reading.{nodes_row, links_row, end_row, other_end_row, capacity_row, a_number, taken, link_at, going, unread}
use Rattle.network_file.specs.Reading.{FileLimits, read_link, after, read_links, read_all}
use Rattle.network_file.specs.Writing.{link_bytes, file_in}
use Rattle.network_file.proofs.laws.NumberLaws.{read_groups_lem}
use Rattle.network_file.specs.Reading.{Progress}
use Rattle.base.proofs.laws.BlankLaws.{blank_is}

-- each number has room in the groups
pub record Roomy (limits : FileLimits) : Type 0 where
  pub some : 0 < limits.groups
  pub nodes : max_nodes < 128 ^ limits.groups
  pub links : max_links < 128 ^ limits.groups
  pub capacity : limits.capacity < 128 ^ limits.groups

-- ---- a number that was written at a place is taken there
module _ (groups : ℕ) (some : 0 < groups) where
  takes : (s front : List ℕ) (v : ℕ) (back : List ℕ) (place : ℕ) (row : ℕ → ℕ) → s ≡ front ++ (group_bytes groups v ++ back)
      → length front ≡ place → v < 128 ^ groups → row v ≡ 0
      → taken groups s place row ≡ a_number v (place + length (group_bytes groups v))
  unfolding taken
  takes s front v back place row e z l r =
      rw (ap (drop place) e ∙ drop_at front (group_bytes groups v ++ back) place z, read_groups_lem groups v back some l, r)

module _ (limits : FileLimits) (roomy : Roomy limits) where
  -- the bytes of a number, and the row of a capacity
  abbrev bytes : ℕ → List ℕ
  bytes v = group_bytes limits.groups v

  abbrev third : ℕ → ℕ
  third = capacity_row limits.capacity

  -- ---- a link that was written at a place
  link_taken : (s front : List ℕ) (n a b c : ℕ) (back : List ℕ) (place : ℕ)
      → s ≡ front ++ (bytes a ++ (bytes b ++ (bytes c ++ back))) → length front ≡ place
      → n ≤ max_nodes → a < n → b < n → b ≢ a → c ≤ limits.capacity
      → link_at limits.groups third s place n
      ≡ record {
        number = 0;
        place = place + length (bytes a) + length (bytes b) + length (bytes c);
        a = a;
        b = b;
        capacity = c;
      }
  unfolding link_at
  link_taken s front n a b c back place e z nl al bl d cl =
      let A = bytes a in
      let B = bytes b in
      let C = bytes c in
      let e2 : s ≡ front ++ A ++ (B ++ (C ++ back)) = e ∙ simp append_assoc in
      let e3 : s ≡ front ++ A ++ B ++ (C ++ back) = e ∙ simp append_assoc in
      let z2 : length (front ++ A) ≡ place + length A = simp length-append (omega arith) in
      let z3 : length (front ++ A ++ B) ≡ place + length A + length B = simp length-append (omega arith) in
      let row1 : end_row n a ≡ 0 = rw (lt-ltb a n al) in
      let row2 : other_end_row n a b ≡ 0 = rw (lt-ltb b n bl, ne_eqb b a d) in
      let row3 : third c ≡ 0 = rw (le-ltb limits.capacity c cl) in
      let take = takes limits.groups roomy.some in
      rw (
        take s front a (B ++ (C ++ back)) place (end_row n) e z (omega (arith, roomy.nodes)) row1,
        take s (front ++ A) b (C ++ back) (place + length A) (other_end_row n a) e2 z2 (omega (arith, roomy.nodes)) row2,
        take s (front ++ A ++ B) c back (place + length A + length B) third e3 z3 (omega (arith, roomy.capacity)) row3,
      )

-- the first k places of an array, the others 0
abbrev front : ℕ → List ℕ → List ℕ
front k xs = take k xs ++ replicate (max_links - k) 0

front_more : (xs : List ℕ) (k : ℕ) → length xs ≡ max_links → k < max_links → set (front k xs) k (at xs k) ≡ front (suc k) xs
front_more xs k z l =
    let q : max_links - k ≡ suc (max_links - suc k) = omega arith in
    ap (λ (d : ℕ). set (take k xs ++ replicate d 0) k (at xs k)) q
    ∙ set_at (take k xs) 0 (replicate (max_links - suc k) 0) (at xs k) k (length-take-le k xs (omega arith))
    ∙ sym (append_snoc (take k xs) (at xs k) (replicate (max_links - suc k) 0))
    ∙ ap (λ (l : List ℕ). l ++ replicate (max_links - suc k) 0) (sym (take-suc xs k 0 (omega arith)))

front_all : (xs : List ℕ) (m : ℕ) → length xs ≡ max_links → m ≤ max_links → blank (drop m xs) ≡ true → front m xs ≡ xs
front_all xs m z l e =
    let q : max_links - m ≡ length (drop m xs) = omega (arith, length-drop m xs) in
    ap (λ (d : ℕ). take m xs ++ replicate d 0) q ∙ ap (λ (l : List ℕ). take m xs ++ l) (sym (blank_is (drop m xs) e))
    ∙ take-append-drop m xs

-- ---- the links of a file
-- the bytes of the first k links, and what stands behind them
splits : (groups : ℕ) (net : Network) (m k : ℕ) → k ≤ m → (back : List ℕ) × (link_bytes groups net m ≡ link_bytes groups net k ++ back)
unfolding link_bytes
splits groups net zero k l = let q : 0 ≡ k = omega arith in ([], ap (link_bytes groups net) q ∙ sym (append-nil (link_bytes groups net k)))
splits groups net (suc m) k l = go (ℕ_discrete k (suc m)) (splits groups net m k)
  where
    link : List ℕ
    link = group_bytes groups (at net.a m) ++ (group_bytes groups (at net.b m) ++ group_bytes groups (at net.capacity m))

    go : Dec (k ≡ suc m) → (k ≤ m → (back : List ℕ) × (link_bytes groups net m ≡ link_bytes groups net k ++ back))
        → (back : List ℕ) × (link_bytes groups net m ++ link ≡ link_bytes groups net k ++ back)
    go (yes q) ih = ([], sym (ap (link_bytes groups net) q) ∙ sym (append-nil (link_bytes groups net k)))
    go (no q) ih =
        let h = ih (omega arith) in (h.0 ++ link, ap (λ (l : List ℕ). l ++ link) h.1 ∙ append_assoc (link_bytes groups net k) h.0 link)

module _ (limits : FileLimits) (roomy : Roomy limits) (net : Network) (w : WithinLimits net)
    (low : (k : ℕ) → k < net.links → at net.capacity k ≤ limits.capacity) where
  abbrev groups : ℕ
  groups = limits.groups

  abbrev row : ℕ → ℕ
  row = capacity_row limits.capacity

  abbrev file : List ℕ
  file = file_in groups net

  -- the network while its first k links are read
  part : ℕ → Network
  part k = record { nodes = net.nodes; links = net.links; a = front k net.a; b = front k net.b; capacity = front k net.capacity }

  heading : List ℕ
  heading = group_bytes groups net.nodes ++ group_bytes groups net.links

  start : ℕ
  start = 0 + length (group_bytes groups net.nodes) + length (group_bytes groups net.links)

  link_read : (k : ℕ) → k < net.links
      → read_link groups row file k (start + length (link_bytes groups net k)) (part k)
      ≡ going (start + length (link_bytes groups net (suc k))) (part (suc k))
  unfolding read_link link_bytes start heading part
  link_read k l =
      let fits = w.fits in
      let ml = links_le net fits in
      let A = group_bytes groups (at net.a k) in
      let B = group_bytes groups (at net.b k) in
      let C = group_bytes groups (at net.capacity k) in
      let sp = splits groups net net.links (suc k) l in
      let z : length (heading ++ link_bytes groups net k) ≡ start + length (link_bytes groups net k) = simp length-append (omega arith) in
      let e : file ≡ heading ++ link_bytes groups net k ++ (A ++ (B ++ (C ++ sp.0))) =
      ap (λ (u : List ℕ). group_bytes groups net.nodes ++ (group_bytes groups net.links ++ u)) sp.1 ∙ simp append_assoc in
      let q : start + length (link_bytes groups net k) + length A + length B + length C
      ≡ start + length (link_bytes groups net k ++ (A ++ (B ++ C))) =
      simp length-append (omega arith) in
      let ends = ends_within net fits k l in
      let t = link_taken limits roomy file (heading ++ link_bytes groups net k) net.nodes (at net.a k) (at net.b k) (at net.capacity k)
      sp.0 (start + length (link_bytes groups net k)) e z
      (nodes_le net fits) ends.0 ends.1 (ends_differ net fits k l) (low k l) in
      rw (
        t,
        q,
        front_more net.a k w.sized.a (omega arith),
        front_more net.b k w.sized.b (omega arith),
        front_more net.capacity k w.sized.capacity (omega arith),
      )

  links_read : (k : ℕ) → k ≤ net.links
      → read_links groups row file k (going start (unread net.nodes net.links))
      ≡ going (start + length (link_bytes groups net k)) (part k)
  unfolding read_links part link_bytes
  links_read zero l = let q : start ≡ start + 0 = omega arith in ap (λ (v : ℕ). going v (part 0)) q
  links_read (suc k) l = ap (λ (r : Progress). after r (read_link groups row file k)) (links_read k (omega arith))
      ∙ link_read k l

  part_all : part net.links ≡ net
  unfolding part network_fits
  part_all =
      let ml = links_le net w.fits in
      let f = rest (rest (rest (rest (shown _ w.fits)))) in
      λ i. record {
        nodes = net.nodes;
        links = net.links;
        a = front_all net.a net.links w.sized.a ml (head f) i;
        b = front_all net.b net.links w.sized.b ml (head (rest f)) i;
        capacity = front_all net.capacity net.links w.sized.capacity ml (head (rest (rest f))) i;
      }

  pub all_read : read_all groups row file ≡ going (length file) net
  unfolding read_all start heading
  all_read =
      let fits = w.fits in
      let nl = nodes_le net fits in
      let np = nodes_pos net fits in
      let ml = links_le net fits in
      let N = group_bytes groups net.nodes in
      let M = group_bytes groups net.links in
      let LB = link_bytes groups net net.links in
      let e : file ≡ N ++ (M ++ LB) = refl in
      let row_n : nodes_row net.nodes ≡ 0 = rw (ne_eqb net.nodes 0 (omega arith), le-ltb max_nodes net.nodes nl) in
      let row_m : links_row net.links ≡ 0 = rw (le-ltb max_links net.links ml) in
      let z : start + length LB ≡ length file = simp length-append (omega arith) in
      let take = takes groups roomy.some in
      rw (
        take file [] net.nodes (M ++ LB) 0 nodes_row e refl (omega (arith, roomy.nodes)) row_n,
        take file N net.links LB (0 + length N) links_row e (omega arith) (omega (arith, roomy.links)) row_m,
        links_read net.links (omega arith),
        z,
        part_all,
        le-ltb (length file) (length file) (omega arith),
      )
