-- The front of a file is read as the whole: no number is due behind the bytes of the longest file, and an accepted file is no longer.
use Rattle.std.specs.Prelude.{ℕ, zero, suc, ◌+◌, ◌-◌, ◌*◌, ◌≤◌, ◌<◌, ◌≡◌, List, length, take, drop}
use Rattle.std.proofs.Common.{sym, ap, ◌∙◌, arith, length-take, length-drop, take_all, get_or-take}
use Rattle.std.proofs.Math.Decide.{ℕ_discrete}
use Rattle.network.specs.Limits.{max_nodes, max_links, max_capacity, max_groups}
use Rattle.network.specs.declared.Network.{Network}
use Rattle.network_file.specs.Reading.{read_file}
use Rattle.network_file.specs.Number.{bytes_of}
use Rattle.network_file.specs.Writing.{max_link, max_file, max_read}
use Rattle.network_file.specs.Faults.{Groups, last, more, Topped, Stands, Field, nodes, links, end, other_end, capacity}
use Rattle.network_file.specs.Faults.{Next, number, over, links_left, following, Due, first, then}
use Rattle.network_file.specs.Faults.{Bad, one, two, three, by_row, nine, Fault}
use Rattle.network_file.proofs.laws.Taking.{Passes, nodes_passed, links_passed, end_passed, other_end_passed, capacity_passed}
use Rattle.network_file.proofs.laws.LengthLaws.{stands_up}
use Rattle.network_file.proofs.laws.Told.{Told, is_refused, is_accepted, told}
use Rattle.network_file.proofs.laws.FileLaws.{refused_network}
use Rattle.network_file.proofs.laws.FaultLaws.{fault_given, fault_only}
use Rattle.network_file.specs.Reading.{Reading}
use Rattle.base.proofs.laws.ListLaws.{drop_take}

-- ---- what is still to come has at most so many bytes
abbrev longest : Next → ℕ
longest (number nodes) = max_file
longest (number (links n)) = bytes_of max_links + max_link * max_links
longest (number (end n left)) = max_link + max_link * left
longest (number (other_end n left a)) = bytes_of (max_nodes - 1) + bytes_of max_capacity + max_link * left
longest (number (capacity n left)) = bytes_of max_capacity + max_link * left
longest over = 0

-- how many nodes were read, once they are
abbrev nodes_in : Next → ℕ
nodes_in (number nodes) = 0
nodes_in (number (links n)) = n
nodes_in (number (end n left)) = n
nodes_in (number (other_end n left a)) = n
nodes_in (number (capacity n left)) = n
nodes_in over = 0

abbrev Early : Next → ℕ → Type 0
Early next place = (place + longest next ≤ max_file) × (nodes_in next ≤ max_nodes)

early_left : (n left place : ℕ) → place + max_link * left ≤ max_file → n ≤ max_nodes → Early (links_left n left) place
early_left n zero place b c = (omega arith, omega arith)
early_left n (suc left) place b c = (omega arith, c)

module _ {s : List ℕ} where
  early_next : (x : Field) {place v size : ℕ} → Early (number x) place → Stands s place v size → Passes x v
      → Early (following x v) (place + size)
  early_next nodes {place} {v} h st ok = let b = (nodes_passed v ok).1 in (omega (arith, stands_up max_nodes st b), b)
  early_next (links n) {place} {v} {size} h st ok =
      let b = links_passed n v ok in early_left n v (place + size) (omega (arith, stands_up max_links st b)) h.1
  early_next (end n left) {place} {v} h st ok =
      let b = end_passed n left v ok in (omega (arith, stands_up (max_nodes - 1) st (omega arith)), h.1)
  early_next (other_end n left a) {place} {v} h st ok =
      let b = (other_end_passed n left a v ok).0 in (omega (arith, stands_up (max_nodes - 1) st (omega arith)), h.1)
  early_next (capacity n left) {place} {v} {size} h st ok =
      early_left n left (place + size) (omega (arith, stands_up max_capacity st (capacity_passed n left v ok))) h.1

  early : {next : Next} {place : ℕ} → Due s next place → Early next place
  early first = (omega arith, omega arith)
  early (then {x} d st ok) = early_next x (early d) st ok

groups_front : {t : List ℕ} {v size : ℕ} (k : ℕ) → Groups t v size → size ≤ k → Groups (take k t) v size
groups_front zero (last h) b = absurd (omega arith)
groups_front (suc k) (last h) b = last h
groups_front zero (more h d g) b = absurd (omega arith)
groups_front (suc k) (more {t = t} h d g) b = more h d (groups_front {t = t} k g (omega arith))

topped_front : (i k : ℕ) (t : List ℕ) → Topped i t → i ≤ k → Topped i (take k t)
topped_front i k t h b =
    record { there = omega (arith, h.there, length-take k t); top = λ j c. rw (get_or-take k t j 0 (omega arith)) (h.top j c) }

-- ---- the faults of a file are those of its front
abbrev front : List ℕ → List ℕ
front s = take max_read s

module _ (s : List ℕ) where
  stands_front : {place v size : ℕ} → place + size ≤ max_file → Stands s place v size → Stands (front s) place v size
  stands_front {place} b st =
      record { groups = rw (drop_take place max_read s) (groups_front (max_read - place) st.groups (omega arith)); few = st.few }

  due_front : {next : Next} {place : ℕ} → Due s next place → Due (front s) next place
  due_front first = first
  due_front (then d st ok) = then (due_front d) (stands_front (omega (arith, (early (then d st ok)).0)) st) ok

  -- every number that is due has room for the most groups
  all_left : (x : Field) → max_groups ≤ longest (number x)
  all_left nodes = omega arith
  all_left (links n) = omega arith
  all_left (end n left) = omega arith
  all_left (other_end n left a) = omega arith
  all_left (capacity n left) = omega arith

  bad_front : {next : Next} {place e : ℕ} → Early next place → Bad s place next e → Bad (front s) place next e
  bad_front {place = place} h (one {x} b) =
      let short : length s ≤ max_read = omega (arith, h.0, all_left x, b.few, length-drop place s) in
      one (rw (take_all max_read s short) b)
  bad_front {place = place} h (two {x} b) =
      let room : max_groups ≤ max_read - place = omega (arith, h.0, all_left x) in
      two (rw (drop_take place max_read s) (topped_front max_groups (max_read - place) (drop place s) b room))
  bad_front {place = place} h (three {x} b) =
      let k : b.before < max_read - place = omega (arith, h.0, all_left x, b.few) in
      three (rw (drop_take place max_read s) (record {
        before = b.before;
        several = b.several;
        few = b.few;
        topped = topped_front b.before (max_read - place) (drop place s) b.topped (omega arith);
        there = omega (arith, b.there, length-take (max_read - place) (drop place s));
        zero_last = get_or-take (max_read - place) (drop place s) b.before 0 k ∙ b.zero_last;
      }))
  bad_front {place = place} h (by_row {x} st w) = by_row (stands_front (omega (arith, h.0, all_left x, st.few)) st) w
  bad_front h (nine b) = nine (omega (arith, h.0, length-take max_read s))

  fault_front : {e place : ℕ} → Fault s e place → Fault (front s) e place
  fault_front f = record { next = f.next; due = due_front f.due; bad = bad_front (early f.due) f.bad }

  -- an accepted file is its own front
  accepted_short : {r : _} → Told s r → r.number ≡ 0 → length s ≤ max_file
  accepted_short (is_refused f) e = absurd (omega arith)
  accepted_short (is_accepted d b w h) e = omega (arith, (early d).0)

pub accepted_length : (s : List ℕ) → (read_file s).number ≡ 0 → length s ≤ max_file
unfolding read_file
accepted_length s e = accepted_short s (told s) e

reading_same : {q r : Reading} → q.number ≡ r.number → q.place ≡ r.place → q.network ≡ r.network → q ≡ r
reading_same {q} {r} a b c =
    let with : ℕ → ℕ → Network → Reading = λ e place net. record { number = e; place = place; network = net } in
    ap (λ (e : ℕ). with e q.place q.network) a ∙ ap (λ (place : ℕ). with r.number place q.network) b
    ∙ ap (with r.number r.place) c

pub read_front : (s : List ℕ) → read_file (take max_read s) ≡ read_file s
read_front s = go (ℕ_discrete (read_file s).number 0)
  where
    go : Dec ((read_file s).number ≡ 0) → read_file (take max_read s) ≡ read_file s
    go (yes e) = ap read_file (take_all max_read s (omega (arith, accepted_length s e)))
    go (no n) =
        let f = fault_front s (fault_given s n) in
        let q = fault_only (take max_read s) (read_file s).number (read_file s).place f in
        reading_same q.0 q.1 (refused_network (take max_read s) (λ z. n (sym q.0 ∙ z)) ∙ sym (refused_network s n))
