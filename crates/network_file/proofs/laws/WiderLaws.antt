-- What narrower limits accept, wider ones accept, with the same network; and a network within the narrower has the same
-- file.
use Rattle.std.specs.Prelude.{ℕ, zero, suc, ◌+◌, ◌/◌, ◌^◌, ◌≤◌, ◌<◌, ◌≡◌, refl, ◌≢◌, Bool, true, false, List, drop, ltb}
use Rattle.std.proofs.Common.{ap, ◌∙◌, arith, le-ltb, ltb-true, ltb-false, pow-suc}
use Rattle.base.specs.Basics.{at}
use Rattle.base.specs.Checks.{accepted}
use Rattle.base.proofs.laws.ChecksLaws.{not_above, passed_row}
use Rattle.network.specs.Network.{WithinLimits}
use Rattle.network.proofs.laws.NetworkLaws.{nodes_le, links_le, ends_within}
use Rattle.network.specs.declared.Network.{Network}
use Rattle.network_file.specs.Number.{group_bytes}
use Rattle.network_file.specs.Reading.{FileLimits, Taken, Link, Progress, Reading, nodes_row, links_row, end_row, other_end_row}
use Rattle.network_file.specs.Reading.{capacity_row, a_number, taken, taking, no_link, link_at, stopped, going, unread}
use Rattle.network_file.specs.Reading.{with_link, read_link, after, read_links, ended, read_all, read_within}
use Rattle.network_file.specs.Writing.{link_bytes, file_in}
use Rattle.network_file.proofs.laws.NumberLaws.{last_group, more_groups}
use Rattle.network_file.proofs.laws.NumberLaws.{groups_read, several_groups}
use Rattle.network_file.proofs.laws.ReadingSteps.{taking_has}
use Rattle.network_file.specs.Faults.{Groups}
use Rattle.network_file.proofs.laws.RoundTrip.{Roomy}

-- ---- what is made of a number that is taken in the fewer groups is made of it in the more
module _ (few many : ℕ) (more : few ≤ many) (s : List ℕ) (place : ℕ) (row wider : ℕ → ℕ)
    (passes : (v : ℕ) → row v ≡ 0 → wider v ≡ 0) where
  taken_wider : (v size : ℕ) → Groups (drop place s) v size → size ≤ few → row v ≡ 0
      → taken many s place wider ≡ a_number v (place + size)
  unfolding taken
  taken_wider v size g l z = rw (groups_read g many (omega arith), passes v z)

  module _ {A : Type 0} (number : A → ℕ) (stop next next' : ℕ → ℕ → A) (stops : (e : ℕ) → number (stop (suc e) place) ≢ 0)
      (same : (v i : ℕ) → number (next v i) ≡ 0 → next' v i ≡ next v i) where
    taking_same : number (taking few s place row stop next) ≡ 0 → taking many s place wider stop next' ≡ taking few s place row stop next
    taking_same =
        taking_has few s place row (λ a. number a ≡ 0 → taking many s place wider stop next' ≡ a) stop next (λ e z. absurd (stops e z))
        λ v size g l z q.
        ap (λ (t : Taken). accepted t.number (next' t.value t.next) (λ e. stop e place)) (taken_wider v size g l z)
        ∙ same v (place + size) q

-- ---- what was read, and on
no_stop : (e place : ℕ) → (stopped (suc e) place).number ≢ 0
no_stop e place q = omega arith

going_on : (e place : ℕ) (r : Progress) → (accepted e r (λ e. stopped e place)).number ≡ 0 → e ≡ 0
going_on zero place r z = refl
going_on (suc e) place r z = absurd (omega arith)

module _ (next next' : ℕ → Network → Progress)
    (same : (place : ℕ) (net : Network) → (next place net).number ≡ 0 → next' place net ≡ next place net) where
  after_same : (r r' : Progress) → (r.number ≡ 0 → r' ≡ r) → (after r next).number ≡ 0 → after r' next' ≡ after r next
  after_same r r' h z = go r.number refl
    where
      go : (e : ℕ) → r.number ≡ e → after r' next' ≡ after r next
      go zero q =
          let y : (next r.place r.network).number ≡ 0 = rw q at z in
          ap (λ (r : Progress). after r next') (h q) ∙ rw q (same r.place r.network y)
      go (suc e) q = let y : suc e ≡ 0 = rw q at z in absurd (omega arith)

-- ---- limits of which none is lower
pub record Wider (narrow wide : FileLimits) : Type 0 where
  pub groups : narrow.groups ≤ wide.groups
  pub capacity : narrow.capacity ≤ wide.capacity

module _ (narrow wide : FileLimits) (w : Wider narrow wide) (s : List ℕ) where
  abbrev few : ℕ
  few = narrow.groups

  abbrev many : ℕ
  many = wide.groups

  abbrev row : ℕ → ℕ
  row = capacity_row narrow.capacity

  abbrev wider : ℕ → ℕ
  wider = capacity_row wide.capacity

  passes_wider : (v : ℕ) → row v ≡ 0 → wider v ≡ 0
  passes_wider v z =
      let h = (not_above narrow.capacity v).0 (passed_row (ltb narrow.capacity v) 7 _ z) in
      rw (le-ltb wide.capacity v (omega (arith, w.capacity)))

  link_same : (place n : ℕ) → (link_at few row s place n).number ≡ 0 → link_at many wider s place n ≡ link_at few row s place n
  unfolding link_at
  link_same place n =
      let number : Link → ℕ = λ l. l.number in
      let last : ℕ → ℕ → ℕ → ℕ → Link = λ a b c next. record { number = 0; place = next; a = a; b = b; capacity = c } in
      let c_few : ℕ → ℕ → ℕ → Link = λ a b next. taking few s next row no_link (last a b) in
      let c_many : ℕ → ℕ → ℕ → Link = λ a b next. taking many s next wider no_link (last a b) in
      let b_few : ℕ → ℕ → Link = λ a next. taking few s next (other_end_row n a) no_link (c_few a) in
      let b_many : ℕ → ℕ → Link = λ a next. taking many s next (other_end_row n a) no_link (c_many a) in
      taking_same few many w.groups s place (end_row n) (end_row n) (λ v z. z) number no_link b_few b_many (λ e q. omega arith) λ a p.
      taking_same few many w.groups s p (other_end_row n a) (other_end_row n a) (λ v z. z) number no_link (c_few a) (c_many a)
      (λ e q. omega arith) λ b q.
      taking_same few many w.groups s q row wider passes_wider number no_link (last a b) (last a b) (λ e q. omega arith) λ c u z. refl

  next_same : (k place : ℕ) (net : Network) → (read_link few row s k place net).number ≡ 0
      → read_link many wider s k place net ≡ read_link few row s k place net
  unfolding read_link
  next_same k place net z =
      let l = link_at few row s place net.nodes in
      let on : Link → Progress = λ l. accepted l.number (going l.place (with_link net k l.a l.b l.capacity)) (λ e. stopped e l.place) in
      ap on (link_same place net.nodes (going_on l.number l.place (going l.place (with_link net k l.a l.b l.capacity)) z))

  links_same : (k : ℕ) (r : Progress) → (read_links few row s k r).number ≡ 0 → read_links many wider s k r ≡ read_links few row s k r
  unfolding read_links
  links_same zero r z = refl
  links_same (suc k) r z =
      after_same (read_link few row s k) (read_link many wider s k) (next_same k) (read_links few row s k r) (read_links many wider s k r)
      (links_same k r) z

  all_same : (read_all few row s).number ≡ 0 → read_all many wider s ≡ read_all few row s
  unfolding read_all
  all_same =
      let number : Progress → ℕ = λ r. r.number in
      let l_few : ℕ → ℕ → ℕ → Progress = λ n m next. after (read_links few row s m (going next (unread n m))) (ended s) in
      let l_many : ℕ → ℕ → ℕ → Progress = λ n m next. after (read_links many wider s m (going next (unread n m))) (ended s) in
      let m_few : ℕ → ℕ → Progress = λ n next. taking few s next links_row stopped (l_few n) in
      let m_many : ℕ → ℕ → Progress = λ n next. taking many s next links_row stopped (l_many n) in
      taking_same few many w.groups s 0 nodes_row nodes_row (λ v z. z) number stopped m_few m_many (λ e. no_stop e 0) λ n p.
      taking_same few many w.groups s p links_row links_row (λ v z. z) number stopped (l_few n) (l_many n) (λ e. no_stop e p) λ m q z.
      after_same (ended s) (ended s) (λ place net h. refl) (read_links few row s m (going q (unread n m)))
      (read_links many wider s m (going q (unread n m))) (links_same m (going q (unread n m))) z

  pub accepted_wider : (read_within narrow s).number ≡ 0 → read_within wide s ≡ read_within narrow s
  accepted_wider z =
      let reply : Progress → Reading = λ r. record { number = r.number; place = accepted r.number 0 (λ e. r.place); network = r.network } in
      ap reply (all_same z)

-- ---- a number that has room in the fewer groups has the same bytes
same_groups : (few many v : ℕ) → 0 < few → few ≤ many → v < 128 ^ few → group_bytes many v ≡ group_bytes few v
same_groups zero many v p l r = absurd (omega arith)
same_groups (suc few) zero v p l r = absurd (omega arith)
same_groups (suc few) (suc many) v p l r = go (ltb v 128) refl (same_groups few many (v / 128))
  where
    go : (b : Bool) → ltb v 128 ≡ b
        → (0 < few → few ≤ many → v / 128 < 128 ^ few → group_bytes many (v / 128) ≡ group_bytes few (v / 128))
        → group_bytes (suc many) v ≡ group_bytes (suc few) v
    go true e ih = let h = ltb-true v 128 e in rw (last_group many v h, last_group few v h)
    go false e ih =
        let h = ltb-false v 128 e in
        let front : v / 128 < 128 ^ few = omega (arith, pow-suc 128 few) in
        rw (more_groups many v h, more_groups few v h, ih (several_groups few v h r) (omega arith) front)

module _ (narrow wide : FileLimits) (w : Wider narrow wide) (roomy : Roomy narrow) (net : Network) (within : WithinLimits net)
    (low : (k : ℕ) → k < net.links → at net.capacity k ≤ narrow.capacity) where
  abbrev fits : (v : ℕ) → v < 128 ^ narrow.groups → group_bytes wide.groups v ≡ group_bytes narrow.groups v
  fits v = same_groups narrow.groups wide.groups v roomy.some w.groups

  same_links : (k : ℕ) → k ≤ net.links → link_bytes wide.groups net k ≡ link_bytes narrow.groups net k
  unfolding link_bytes
  same_links zero l = refl
  same_links (suc k) l =
      let ends = ends_within net within.fits k l in
      let nl = nodes_le net within.fits in
      rw (
        same_links k (omega arith),
        fits (at net.a k) (omega (arith, roomy.nodes)),
        fits (at net.b k) (omega (arith, roomy.nodes)),
        fits (at net.capacity k) (omega (arith, low k l, roomy.capacity)),
      )

  pub same_file : file_in wide.groups net ≡ file_in narrow.groups net
  same_file =
      let nl = nodes_le net within.fits in
      let ml = links_le net within.fits in
      rw (
        fits net.nodes (omega (arith, roomy.nodes)),
        fits net.links (omega (arith, roomy.links)),
        same_links net.links (omega arith),
      )
