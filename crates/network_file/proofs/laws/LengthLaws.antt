-- How long numbers and files are, and that a file is made of bytes.
use Rattle.std.specs.Prelude.{ℕ, zero, suc, ◌+◌, ◌-◌, ◌*◌, ◌/◌, ◌%◌, ◌^◌, ◌≤◌, ◌<◌, ◌≡◌, refl, Bool, true, false, List}
use Rattle.std.specs.Prelude.{[], ◌∷◌, ◌++◌, length, ltb}
use Rattle.std.proofs.Common.{ap, arith, pow-suc, length-append, lt-ltb, le-ltb, ltb-true, ltb-false}
use Rattle.std.proofs.lemmas.List.{length-replicate}
use Rattle.base.specs.Basics.{pick, at, all, every, blank}
use Rattle.network.specs.Limits.{max_nodes, max_links, max_capacity, max_groups}
use Rattle.network.specs.Network.{network_fits, WithinLimits}
use Rattle.network.proofs.laws.NetworkLaws.{nodes_le, links_le, ends_within, capacity_le}
use Rattle.network.specs.declared.Network.{Network}
use Rattle.network_file.specs.Number.{group_bytes, number_bytes, groups_of, bytes_of, Bytes}
use Rattle.network_file.specs.Faults.{Groups, last, more, Stands}
use Rattle.network_file.proofs.laws.NumberLaws.{last_group, more_groups}
use Rattle.network_file.specs.Writing.{link_bytes, file_of, max_link, max_file, largest}

-- ---- numbers
pub groups_most : (most v : ℕ) → length (group_bytes most v) ≤ most
unfolding group_bytes
groups_most zero v = omega arith
groups_most (suc most) v = go (ltb v 128) refl (groups_most most (v / 128))
  where
    go : (b : Bool) → ltb v 128 ≡ b → length (group_bytes most (v / 128)) ≤ most → length (group_bytes (suc most) v) ≤ suc most
    go true e ih = rw (last_group most v (ltb-true v 128 e)) (omega arith)
    go false e ih = rw (more_groups most v (ltb-false v 128 e)) (omega arith)

pub number_most : (v : ℕ) → length (number_bytes v) ≤ max_groups
number_most v = groups_most max_groups v

-- a number has the bytes that are counted, and a smaller one has no more
groups_length : (most v : ℕ) → length (group_bytes most v) ≡ groups_of most v
unfolding group_bytes
groups_length zero v = refl
groups_length (suc most) v = go (ltb v 128) (groups_length most (v / 128))
  where
    go : (b : Bool) → length (group_bytes most (v / 128)) ≡ groups_of most (v / 128)
        → length (pick b (v ∷ []) ((128 + v % 128) ∷ group_bytes most (v / 128))) ≡ pick b 1 (suc (groups_of most (v / 128)))
    go true ih = refl
    go false ih = ap suc ih

groups_up : (most v w : ℕ) → v ≤ w → groups_of most v ≤ groups_of most w
groups_up zero v w l = omega arith
groups_up (suc most) v w l = go (ltb v 128) (ltb w 128) refl refl (groups_up most (v / 128) (w / 128) (omega arith))
  where
    go : (b d : Bool) → ltb v 128 ≡ b → ltb w 128 ≡ d → groups_of most (v / 128) ≤ groups_of most (w / 128)
        → pick b 1 (suc (groups_of most (v / 128))) ≤ pick d 1 (suc (groups_of most (w / 128)))
    go true true e f ih = omega arith
    go true false e f ih = omega arith
    go false true e f ih = absurd (omega (arith, ltb-false v 128 e, ltb-true w 128 f))
    go false false e f ih = omega arith

pub number_up : (v w : ℕ) → v ≤ w → length (number_bytes v) ≤ bytes_of w
number_up v w l = omega (arith, groups_length max_groups v, groups_up max_groups v w l)

-- so has a number that is read, be its groups bytes or not
groups_size : {t : List ℕ} {v size : ℕ} → Groups t v size → (most : ℕ) → size ≤ most → size ≤ groups_of most v
groups_size g zero h = omega arith
groups_size (last {x} l) (suc most) h = rw (lt-ltb x 128 l) (omega arith)
groups_size (more {x} {v} {size} {t} l n g) (suc most) h =
    let w = x - 128 + 128 * v in
    let high : 128 ≤ w = omega arith in
    rw (le-ltb w 128 high) (omega (arith, groups_size {t = t} g most (omega arith), groups_up most v (w / 128) (omega arith)))

pub stands_up : {s : List ℕ} {place v size : ℕ} (w : ℕ) → Stands s place v size → v ≤ w → size ≤ bytes_of w
stands_up {v = v} w st l = omega (arith, groups_size st.groups max_groups st.few, groups_up max_groups v w l)

-- ---- the file
pub links_most : (net : Network) → network_fits net ≡ true → (k : ℕ) → k ≤ net.links → length (link_bytes max_groups net k) ≤ k * max_link
unfolding link_bytes
links_most net e zero l = omega arith
links_most net e (suc k) l =
    let ends = ends_within net e k l in
    let nl = nodes_le net e in
    simp length-append
    (omega (
      arith,
      links_most net e k (omega arith),
      number_up (at net.a k) (max_nodes - 1) (omega arith),
      number_up (at net.b k) (max_nodes - 1) (omega arith),
      number_up (at net.capacity k) max_capacity (capacity_le net e k l),
    ))

pub file_most : (net : Network) → network_fits net ≡ true → length (file_of net) ≤ max_file
unfolding file_of
file_most net e =
    let ml = links_le net e in
    simp length-append
    (omega (
      arith,
      number_up net.nodes max_nodes (nodes_le net e),
      number_up net.links max_links ml,
      links_most net e net.links (omega arith),
    ))

-- ---- bytes
bytes_append : (s t : List ℕ) → Bytes s → Bytes t → Bytes (s ++ t)
bytes_append [] t b c i = c i
bytes_append (x ∷ s) t b c zero = b 0
bytes_append (x ∷ s) t b c (suc i) = bytes_append s t (λ k. b (suc k)) c i

group_bytes_lem : (most v : ℕ) → v < 128 ^ most → Bytes (group_bytes most v)
unfolding group_bytes
group_bytes_lem zero v l = λ i. omega arith
group_bytes_lem (suc most) v l = go (ltb v 128) refl (group_bytes_lem most (v / 128) (omega (arith, pow-suc 128 most)))
  where
    one : (x : ℕ) → x < 256 → Bytes (x ∷ [])
    one x h zero = h
    one x h (suc i) = omega arith

    go : (b : Bool) → ltb v 128 ≡ b → Bytes (group_bytes most (v / 128)) → Bytes (group_bytes (suc most) v)
    go true e ih = rw (last_group most v (ltb-true v 128 e)) (one v (omega (arith, ltb-true v 128 e)))
    go false e ih =
        rw (more_groups most v (ltb-false v 128 e))
        (bytes_append ((128 + v % 128) ∷ []) (group_bytes most (v / 128)) (one (128 + v % 128) (omega arith)) ih)

number_bytes_lem : (v : ℕ) → v < 128 ^ max_groups → Bytes (number_bytes v)
number_bytes_lem v l = group_bytes_lem max_groups v l

links_bytes : (net : Network) → network_fits net ≡ true → (k : ℕ) → k ≤ net.links → Bytes (link_bytes max_groups net k)
unfolding link_bytes
links_bytes net e zero l = λ i. omega arith
links_bytes net e (suc k) l =
    let ends = ends_within net e k l in
    let nl = nodes_le net e in
    let cl = capacity_le net e k l in
    let A = number_bytes (at net.a k) in
    let B = number_bytes (at net.b k) in
    let C = number_bytes (at net.capacity k) in
    bytes_append (link_bytes max_groups net k) (A ++ (B ++ C)) (links_bytes net e k (omega arith))
    (bytes_append A (B ++ C) (number_bytes_lem (at net.a k) (omega arith))
    (bytes_append B C (number_bytes_lem (at net.b k) (omega arith)) (number_bytes_lem (at net.capacity k) (omega arith))))

pub file_bytes : (net : Network) → network_fits net ≡ true → Bytes (file_of net)
unfolding file_of
file_bytes net e =
    let nl = nodes_le net e in
    let ml = links_le net e in
    let N = number_bytes net.nodes in
    let M = number_bytes net.links in
    let LB = link_bytes max_groups net net.links in
    bytes_append N (M ++ LB) (number_bytes_lem net.nodes (omega arith))
    (bytes_append M LB (number_bytes_lem net.links (omega arith)) (links_bytes net e net.links (omega arith)))

-- ---- the longest file
pub largest_within : WithinLimits largest
unfolding network_fits every all blank
largest_within =
    record {
      fits = refl;
      sized = record {
        a = length-replicate {A = ℕ} max_links 0;
        b = length-replicate {A = ℕ} max_links 1;
        capacity = length-replicate {A = ℕ} max_links max_capacity;
      };
    }

pub largest_longest : length (file_of largest) ≡ max_file
unfolding file_of link_bytes group_bytes
largest_longest = refl
