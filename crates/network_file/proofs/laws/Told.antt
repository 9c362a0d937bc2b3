-- Reading a file, in one pass from its first number to its end: it stops at a fault of `Faults`, or it ends with a network within the
-- limits, nothing is left, and, of a file of bytes, the network's file is what was read.
use Rattle.std.specs.Prelude.{ℕ, zero, suc, ◌+◌, ◌-◌, ◌≤◌, ◌<◌, List, ◌++◌, length, take, ◌≡◌, ◌≢◌, Bool, true, false, ltb}
use Rattle.std.proofs.Common.{refl, sym, ap, ap₂, subst, ◌∙◌, arith, ltb-true, ltb-false, append_assoc, append-nil, take_all}
use Rattle.base.specs.Basics.{pick}
use Rattle.base.specs.Checks.{accepted}
use Rattle.network.specs.Limits.{max_nodes, max_links, max_capacity, max_groups}
use Rattle.network.specs.Network.{WithinLimits}
use Rattle.network.specs.declared.Network.{Network}
use Rattle.network_file.specs.Number.{number_bytes, Bytes}
use Rattle.network_file.specs.Reading.{other_end_row, links_row, taking, no_link, link_at, stopped, going, unread, with_link}
use Rattle.network_file.specs.Reading.{read_link, after, read_links, ended, read_all}
use Rattle.network_file.specs.Writing.{link_bytes, file_of}
use Rattle.network_file.specs.Faults.{nodes, links, end, other_end, capacity, number, over, links_left, Due, first, then, nine, Fault}
use Rattle.network_file.proofs.laws.Taking.{nodes_passed, links_passed, end_passed, other_end_passed, capacity_passed, by_taking}
use Rattle.network_file.proofs.laws.Taking.{file_row, stands_written}
use Rattle.network_file.proofs.laws.Filling.{Filled, unread_filled, link_filled, bytes_more, filled_within}
use Rattle.network_file.specs.Reading.{Link}
use Rattle.network_file.specs.Reading.{Progress}

-- ---- one link
pub record LinkStands (s : List ℕ) (place n a b c next : ℕ) : Type 0 where
  pub a_below : a < n
  pub b_below : b < n
  pub differ : b ≢ a
  pub c_within : c ≤ max_capacity
  pub written : Bytes s → take next s ≡ take place s ++ (number_bytes a ++ (number_bytes b ++ number_bytes c))

pub data LinkTold (s : List ℕ) (place n left : ℕ) : Link → Type 0 where
  link_stops : {e at : ℕ} → Fault s (suc e) at → LinkTold s place n left (no_link (suc e) at)
  link_goes : {a b c next : ℕ} → Due s (links_left n left) next → LinkStands s place n a b c next
      → LinkTold s place n left (record { number = 0; place = next; a = a; b = b; capacity = c })

link_told : (s : List ℕ) (place n left : ℕ) → Due s (number (end n left)) place
    → LinkTold s place n left (link_at max_groups file_row s place n)
unfolding link_at
link_told s place n left d0 =
    let P = LinkTold s place n left in
    let last : ℕ → ℕ → ℕ → ℕ → Link = λ a b c next. record { number = 0; place = next; a = a; b = b; capacity = c } in
    let from_c : ℕ → ℕ → ℕ → Link = λ a b next. taking max_groups s next file_row no_link (last a b) in
    let from_b : ℕ → ℕ → Link = λ a next. taking max_groups s next (other_end_row n a) no_link (from_c a) in
    by_taking P s place (end n left) no_link from_b (λ e bad. link_stops (record { next = number (end n left); due = d0; bad = bad }))
    λ a i sa pa. let d1 : Due s (number (other_end n left a)) (place + i) = then d0 sa pa in
    by_taking P s (place + i) (other_end n left a) no_link (from_c a) (λ e bad. link_stops (record {
      next = number (other_end n left a);
      due = d1;
      bad = bad;
    }))
    λ b j sb pb. let d2 : Due s (number (capacity n left)) (place + i + j) = then d1 sb pb in
    by_taking P s (place + i + j) (capacity n left) no_link (last a b) (λ e bad. link_stops (record {
      next = number (capacity n left);
      due = d2;
      bad = bad;
    }))
    λ c k sc pc.
    link_goes (then d2 sc pc) (record {
      a_below = end_passed n left a pa;
      b_below = (other_end_passed n left a b pb).0;
      differ = (other_end_passed n left a b pb).1;
      c_within = capacity_passed n left c pc;
      written = λ h.
          stands_written s (place + i + j) c k h sc ∙ ap (λ (l : List ℕ). l ++ number_bytes c) (stands_written s (place + i) b j h sb)
          ∙ ap (λ (l : List ℕ). l ++ number_bytes b ++ number_bytes c) (stands_written s place a i h sa) ∙ simp append_assoc;
    })

-- ---- the links
heading : ℕ → ℕ → List ℕ
heading n m = number_bytes n ++ number_bytes m

bare : (n m : ℕ) (net : Network) → number_bytes n ++ number_bytes m ≡ heading n m ++ link_bytes max_groups net 0
unfolding heading link_bytes
bare n m net = sym (append-nil (number_bytes n ++ number_bytes m))

data LinksTold (s : List ℕ) (n m k : ℕ) : Progress → Type 0 where
  links_stop : {e at : ℕ} → Fault s (suc e) at → LinksTold s n m k (stopped (suc e) at)
  links_go : {next : ℕ} {net : Network} → Due s (links_left n (m - k)) next → Filled n m k net
      → (Bytes s → take next s ≡ heading n m ++ link_bytes max_groups net k) → LinksTold s n m k (going next net)

module _ (s : List ℕ) (n m k : ℕ) (km : k < m) (ml : m ≤ max_links) where
  with_link_lem : {place : ℕ} {net : Network} {l : Link} → Filled n m k net
      → (Bytes s → take place s ≡ heading n m ++ link_bytes max_groups net k)
      → LinkTold s place n (m - suc k) l
      → LinksTold s n m (suc k)
      (accepted l.number (going l.place (with_link net k l.a l.b l.capacity)) (λ e. stopped e l.place))
  with_link_lem f w (link_stops x) = links_stop x
  with_link_lem {net = net} f w (link_goes {a = a} {b = b} {c = c} d h) =
      links_go d (link_filled n m k net f (omega arith) a b c h.a_below h.b_below h.differ h.c_within)
      (λ y. h.written y ∙ ap (λ (l : List ℕ). l ++ (number_bytes a ++ (number_bytes b ++ number_bytes c))) (w y)
      ∙ append_assoc (heading n m) (link_bytes max_groups net k) (number_bytes a ++ (number_bytes b ++ number_bytes c))
      ∙ ap (λ (l : List ℕ). heading n m ++ l) (sym (bytes_more n m k net f (omega arith) a b c)))

  more_links : {r : Progress} → LinksTold s n m k r → LinksTold s n m (suc k) (after r (read_link max_groups file_row s k))
  unfolding read_link
  more_links (links_stop x) = links_stop x
  more_links (links_go {next = place} {net = net} d f w) =
      let e : m - k ≡ suc (m - suc k) = omega arith in
      let d1 : Due s (number (end n (m - suc k))) place = subst (λ (left : ℕ). Due s (links_left n left) place) e d in
      with_link_lem f w (subst (λ (j : ℕ). LinkTold s place n (m - suc k) (link_at max_groups file_row s place j)) (sym f.nodes)
      (link_told s place n (m - suc k) d1))

links_told : (s : List ℕ) (n m : ℕ) (r : Progress)
    → m ≤ max_links → LinksTold s n m 0 r → (k : ℕ) → k ≤ m → LinksTold s n m k (read_links max_groups file_row s k r)
unfolding read_links
links_told s n m r ml t zero l = t
links_told s n m r ml t (suc k) l = more_links s n m k l ml (links_told s n m r ml t k (omega arith))

-- ---- the file
file_is : (n m : ℕ) (net : Network) → Filled n m m net → file_of net ≡ heading n m ++ link_bytes max_groups net m
unfolding file_of heading
file_is n m net f =
    ap₂ (λ (p q : ℕ). number_bytes p ++ (number_bytes q ++ link_bytes max_groups net q)) f.nodes f.links
    ∙ (sym (append_assoc (number_bytes n) (number_bytes m) (link_bytes max_groups net m)))

pub data Told (s : List ℕ) : Progress → Type 0 where
  is_refused : {e at : ℕ} → Fault s (suc e) at → Told s (stopped (suc e) at)
  is_accepted : {next : ℕ} {net : Network} → Due s over next → length s ≤ next → WithinLimits net → (Bytes s → file_of net ≡ s)
      → Told s (going next net)

module _ (s : List ℕ) where
  at_end_lem : (n m next : ℕ) (net : Network) → 1 ≤ n → n ≤ max_nodes → m ≤ max_links → Due s over next → Filled n m m net
      → (Bytes s → take next s ≡ heading n m ++ link_bytes max_groups net m) → Told s (ended s next net)
  at_end_lem n m next net np nl ml d f w = go (ltb next (length s)) refl
    where
      go : (b : Bool) → ltb next (length s) ≡ b → Told s (pick b (stopped 9 next) (going next net))
      go true e = is_refused (record { next = over; due = d; bad = nine (ltb-true next (length s) e) })
      go false e =
          let behind = ltb-false next (length s) e in
          is_accepted d behind (filled_within n m net f np nl ml) (λ b. file_is n m net f ∙ sym (w b) ∙ take_all next s behind)

  after_links : (n m : ℕ) {r : Progress} → 1 ≤ n → n ≤ max_nodes → m ≤ max_links → LinksTold s n m m r → Told s (after r (ended s))
  after_links n m np nl ml (links_stop x) = is_refused x
  after_links n m np nl ml (links_go {next = next} {net = net} d f w) =
      let none_left : m - m ≡ 0 = omega arith in
      at_end_lem n m next net np nl ml (subst (λ (left : ℕ). Due s (links_left n left) next) none_left d) f w

  pub told : Told s (read_all max_groups file_row s)
  unfolding read_all
  told =
      let rest : ℕ → ℕ → ℕ → Progress = λ n m next. after (read_links max_groups file_row s m (going next (unread n m))) (ended s) in
      let from_m : ℕ → ℕ → Progress = λ n next. taking max_groups s next links_row stopped (rest n) in
      by_taking (Told s) s 0 nodes stopped from_m (λ e bad. is_refused (record { next = number nodes; due = first; bad = bad }))
      λ n i sn pn. let d1 : Due s (number (links n)) (0 + i) = then first sn pn in
      by_taking (Told s) s (0 + i) (links n) stopped (rest n)
      (λ e bad. is_refused (record { next = number (links n); due = d1; bad = bad }))
      λ m j sm pm.
      let bounds = nodes_passed n pn in
      let ml = links_passed n m pm in
      let all_left : m ≡ m - 0 = omega arith in
      let start : LinksTold s n m 0 (going (0 + i + j) (unread n m)) =
      links_go (subst (λ (left : ℕ). Due s (links_left n left) (0 + i + j)) all_left (then d1 sm pm)) (unread_filled n m)
      (λ b. stands_written s (0 + i) m j b sm ∙ ap (λ (l : List ℕ). l ++ number_bytes m) (stands_written s 0 n i b sn)
      ∙ bare n m (unread n m)) in
      after_links n m bounds.0 bounds.1 ml (links_told s n m (going (0 + i + j) (unread n m)) ml start m (omega arith))
