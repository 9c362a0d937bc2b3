-- Reading in the steps of the code: numbers taken one behind the other, each with its row; and the link, the file and the reply by them.
use Rattle.std.specs.Prelude.{ℕ, zero, suc, ◌+◌, ◌≤◌, ◌<◌, ◌≡◌, ◌≢◌, Bool, true, false, not, ◌||◌, List, length, drop, ltb, eqb}
use Rattle.std.specs.Prelude.{Result, Ok, Err, MatchResult}
use Rattle.std.proofs.Common.{refl, sym, ap, subst, ◌∙◌, true≢false, arith, lt-ltb, le-ltb, ltb-false, length-drop}
use Rattle.base.specs.Checks.{check, accepted}
use Rattle.base.proofs.laws.ChecksLaws.{below, not_above, passed_row, refused_by}
use Rattle.network.specs.Limits.{max_nodes, max_links, max_groups}
use Rattle.network.specs.Network.{no_network}
use Rattle.network.specs.Refusals.{refusal_number}
use Rattle.network.specs.declared.Network.{Network}
use Rattle.network.specs.declared.refusals.Refusal.{Refusal}
use Rattle.network.proofs.laws.RefusalLaws.{refusal_some}
use Rattle.network_file.specs.Number.{Number, Value, Refused, read_number, refusal_in, value_in, size_in}
use Rattle.network_file.specs.Reading.{nodes_row, links_row, end_row, other_end_row, no_number, a_number, taken, taking, no_link, link_at}
use Rattle.network_file.specs.Reading.{stopped, going, unread, after, read_links, ended, read_all}
use Rattle.network_file.specs.Reading.{read_by, Taken, Link, Progress, Reading}
use Rattle.network_file.specs.Faults.{Groups}
use Rattle.network_file.specs.declared.Fault.{Fault}
use Rattle.network_file.proofs.laws.NumberLaws.{Seen, sees_one, sees_two, sees_three, sees_value, seen, size_within, refused_value}

-- ---- a number is taken: it is not read, or its row is wrong, or it passes
seen_refused : {t : List ℕ} {r : Number} (e : ℕ) → Seen max_groups t r → r ≡ Refused e → e ≢ 0
seen_refused e (sees_one h) q = let z : 1 ≡ e = ap refusal_in q in omega arith
seen_refused e (sees_two h) q = let z : 2 ≡ e = ap refusal_in q in omega arith
seen_refused e (sees_three h) q = let z : 3 ≡ e = ap refusal_in q in omega arith
seen_refused e (sees_value g l) q = absurd (refused_value (sym q))

refused_some : (t : List ℕ) (e : ℕ) → read_number t ≡ Refused e → e ≢ 0
refused_some t e q = seen_refused e (seen max_groups t) q

module _ (s : List ℕ) (place : ℕ) where
  module _ (row : ℕ → ℕ) where
    pub takes_none : (e : ℕ) → read_number (drop place s) ≡ Refused e → no_number e place ≡ taken max_groups s place row
    unfolding taken
    takes_none e q = rw q (go e (refused_some (drop place s) e q))
      where
        go : (e : ℕ) → e ≢ 0 → no_number e place ≡ accepted (check (ltb 0 e) e (row 0)) (a_number 0 (place + 0)) (λ e. no_number e place)
        go zero n = absurd (n refl)
        go (suc e) n = rw (lt-ltb 0 (suc e) (omega arith))

    module _ (v size : ℕ) (q : read_number (drop place s) ≡ Value v size) (e : ℕ) (row_is : e ≡ row v) where
      pub takes_wrong : e ≢ 0 → no_number e place ≡ taken max_groups s place row
      unfolding taken
      takes_wrong n = rw (q, sym row_is) (sym (refused_by e (a_number v (place + size)) (λ e. no_number e place) n))

      pub takes_value : e ≡ 0 → a_number v (place + size) ≡ taken max_groups s place row
      unfolding taken
      takes_value z = rw (q, sym row_is, z)

  size_in_lem : {r : Number} → Seen max_groups (drop place s) r → size_in r ≤ length (drop place s)
  size_in_lem (sees_one h) = omega arith
  size_in_lem (sees_two h) = omega arith
  size_in_lem (sees_three h) = omega arith
  size_in_lem (sees_value g l) = size_within g

  -- reading does not go past the end
  pub value_within : (v size : ℕ) → place ≤ length s → read_number (drop place s) ≡ Value v size → place + size ≤ length s
  value_within v size l q =
      let h = size_in_lem (seen max_groups (drop place s)) in
      let z : size_in (read_number (drop place s)) ≡ size = ap size_in q in
      omega (arith, length-drop place s)

-- the ways of it: a stop at its place; or a value that passes its row
data Ways (groups : ℕ) (s : List ℕ) (place : ℕ) (row : ℕ → ℕ) : Taken → Type 0 where
  stops : {e : ℕ} → Ways groups s place row (no_number (suc e) place)
  goes : {v size : ℕ} → Groups (drop place s) v size → size ≤ groups → row v ≡ 0 → Ways groups s place row (a_number v (place + size))

module _ (groups : ℕ) (s : List ℕ) (place : ℕ) (row : ℕ → ℕ) where
  by_row : (v size e : ℕ) → Groups (drop place s) v size → size ≤ groups → row v ≡ e
      → Ways groups s place row (accepted e (a_number v (place + size)) (λ e. no_number e place))
  by_row v size zero g l q = goes g l q
  by_row v size (suc e) g l q = stops

  by_number : {r : Number} → Seen groups (drop place s) r
      → Ways groups s place row (accepted (check (ltb 0 (refusal_in r)) (refusal_in r) (row (value_in r)))
      (a_number (value_in r) (place + size_in r)) (λ e. no_number e place))
  by_number (sees_one h) = stops
  by_number (sees_two h) = stops
  by_number (sees_three h) = stops
  by_number (sees_value {v} {size} g l) = by_row v size (row v) g l refl

  ways : Ways groups s place row (taken groups s place row)
  unfolding taken
  ways = by_number (seen groups (drop place s))

  -- so a fact holds of what is made by `taking`, if it holds where the number is refused, and where it passes
  module _ {A : Type 0} (P : A → Type 0) (stop next : ℕ → ℕ → A) (refused : (e : ℕ) → P (stop (suc e) place))
      (passed : (v size : ℕ) → Groups (drop place s) v size → size ≤ groups → row v ≡ 0 → P (next v (place + size))) where
    by_ways : {t : Taken} → Ways groups s place row t → P (accepted t.number (next t.value t.next) (λ e. stop e place))
    by_ways (stops {e}) = refused e
    by_ways (goes {v} {size} g l z) = passed v size g l z

    pub taking_has : P (taking groups s place row stop next)
    taking_has = by_ways ways

-- ---- of an equal file
pub in_file : (place : ℕ) (row : ℕ → ℕ) {s s' : List ℕ} {t : Taken} → s' ≡ s → t ≡ taken max_groups s' place row
    → t ≡ taken max_groups s place row
in_file place row {t = t} e h = subst (λ (s : List ℕ). t ≡ taken max_groups s place row) e h

pub link_in_file : (third : ℕ → ℕ) (place n : ℕ) {s s' : List ℕ} {l : Link} → s' ≡ s → l ≡ link_at max_groups third s' place n
    → l ≡ link_at max_groups third s place n
link_in_file third place n {l = l} e h = subst (λ (s : List ℕ). l ≡ link_at max_groups third s place n) e h

pub links_in_file : (third : ℕ → ℕ) (m : ℕ) (r : Progress) {s s' : List ℕ} {p : Progress} → s' ≡ s → p ≡ read_links max_groups third s' m r
    → p ≡ read_links max_groups third s m r
links_in_file third m r {p = p} e h = subst (λ (s : List ℕ). p ≡ read_links max_groups third s m r) e h

-- ---- a number, and on; the code has a number of its own for each refusal
-- where a `map_err` puts the place to a refusal
pub unmapped : {T E : Type 0} (r : Result T E) (x : T) → MatchResult r (λ y. ◌≡◌ {A = Result T Fault} (Ok x) (Ok y)) (λ e. ⊥) → r ≡ Ok x
unmapped (Ok y) x h = cc
unmapped (Err e) x h = absurd h

pub mapped : {T : Type 0} (r : Result T Refusal) (f : Fault) (place : ℕ) {Q : Refusal → Type 0}
    → MatchResult r (λ y. ◌≡◌ {A = Result T Fault} (Err f) (Ok y)) Q → ((e : Refusal) → Q e → f ≡ record { refusal = e; place = place })
    → (r ≡ Err f.refusal) × (f.place ≡ place)
mapped (Ok y) f place h fault = absurd (cc)
mapped (Err e) f place h fault =
    let q = fault e h in (ap (λ (f : Fault). Err f.refusal) (sym q), ap (λ (f : Fault). f.place) q)

module _ (s : List ℕ) (place : ℕ) (row : ℕ → ℕ) where
  pub passes : (v next : ℕ) → a_number v next ≡ taken max_groups s place row → row v ≡ 0
  passes v next h = subst (λ (t : Taken). t.number ≡ 0 → row t.value ≡ 0) (sym h) (go (ways max_groups s place row)) refl
    where
      go : {t : Taken} → Ways max_groups s place row t → t.number ≡ 0 → row t.value ≡ 0
      go stops e = absurd (omega arith)
      go (goes g l z) e = z

  stops_there : (t : Taken) → t ≡ taken max_groups s place row → t.number ≢ 0 → t.next ≡ place
  stops_there t h = subst (λ (t : Taken). t.number ≢ 0 → t.next ≡ place) (sym h) (go (ways max_groups s place row))
    where
      go : {t : Taken} → Ways max_groups s place row t → t.number ≢ 0 → t.next ≡ place
      go stops n = refl
      go (goes g l z) n = absurd (n refl)

  module _ {A : Type 0} (stop next : ℕ → ℕ → A) where
    on : Taken → A
    on t = accepted t.number (next t.value t.next) (λ e. stop e place)

    pub goes_on : (v q : ℕ) → a_number v q ≡ taken max_groups s place row → next v q ≡ taking max_groups s place row stop next
    unfolding on
    goes_on v q h = ap on h

    pub stops_at : (r : Refusal) (q : ℕ) → no_number (refusal_number r) q ≡ taken max_groups s place row
        → stop (refusal_number r) q ≡ taking max_groups s place row stop next
    unfolding on
    stops_at r q h =
        let there : q ≡ place = stops_there (no_number (refusal_number r) q) h (refusal_some r) in
        ap (stop (refusal_number r)) there ∙ sym (refused_by (refusal_number r) (next 0 q) (λ e. stop e place) (refusal_some r)) ∙ ap on h

-- ---- what has passed is within its limit
nodes_row_lem : (v : ℕ) → nodes_row v ≡ 0 → v ≤ max_nodes
nodes_row_lem v z = go (eqb v 0) (ltb max_nodes v) refl (passed_row (eqb v 0 || ltb max_nodes v) 3 0 z)
  where
    go : (b d : Bool) → ltb max_nodes v ≡ d → (b || d) ≡ false → v ≤ max_nodes
    go true d e q = absurd (true≢false q)
    go false d e q = ltb-false max_nodes v (e ∙ q)

pub end_below : (s : List ℕ) (place n a next : ℕ) → a_number a next ≡ taken max_groups s place (end_row n) → a < n
end_below s place n a next h = (below a n).0 (passed_row (not (ltb a n)) 5 _ (passes s place (end_row n) a next h))

pub other_end_below : (s : List ℕ) (place n a b next : ℕ) → a_number b next ≡ taken max_groups s place (other_end_row n a) → b < n
other_end_below s place n a b next h =
    (below b n).0 (passed_row (not (ltb b n)) 5 _ (passes s place (other_end_row n a) b next h))

pub nodes_within : (s : List ℕ) (place n next : ℕ) → a_number n next ≡ taken max_groups s place nodes_row → n ≤ max_nodes
nodes_within s place n next h = nodes_row_lem n (passes s place nodes_row n next h)

pub links_within : (s : List ℕ) (place m next : ℕ) → a_number m next ≡ taken max_groups s place links_row → m ≤ max_links
links_within s place m next h =
    (not_above max_links m).0 (passed_row (ltb max_links m) 4 _ (passes s place links_row m next h))

-- ---- a link, by the three numbers
module _ (third : ℕ → ℕ) (s : List ℕ) (place n : ℕ) where
  abbrev last : ℕ → ℕ → ℕ → ℕ → Link
  last a b c next = record { number = 0; place = next; a = a; b = b; capacity = c }

  abbrev from_c : ℕ → ℕ → ℕ → Link
  from_c a b q = taking max_groups s q third no_link (last a b)

  abbrev from_b : ℕ → ℕ → Link
  from_b a p = taking max_groups s p (other_end_row n a) no_link (from_c a)

  pub a_stops : (r : Refusal) (q : ℕ) → no_number (refusal_number r) q ≡ taken max_groups s place (end_row n)
      → no_link (refusal_number r) q ≡ link_at max_groups third s place n
  unfolding link_at
  a_stops = stops_at s place (end_row n) no_link from_b

  module _ (a p : ℕ) (a_is : a_number a p ≡ taken max_groups s place (end_row n)) where
    on_a : from_b a p ≡ link_at max_groups third s place n
    unfolding link_at
    on_a = goes_on s place (end_row n) no_link from_b a p a_is

    pub b_stops : (r : Refusal) (q : ℕ) → no_number (refusal_number r) q ≡ taken max_groups s p (other_end_row n a)
        → no_link (refusal_number r) q ≡ link_at max_groups third s place n
    b_stops r q h = stops_at s p (other_end_row n a) no_link (from_c a) r q h ∙ on_a

    module _ (b q : ℕ) (b_is : a_number b q ≡ taken max_groups s p (other_end_row n a)) where
      on_b : from_c a b q ≡ link_at max_groups third s place n
      on_b = goes_on s p (other_end_row n a) no_link (from_c a) b q b_is ∙ on_a

      pub c_stops : (r : Refusal) (u : ℕ) → no_number (refusal_number r) u ≡ taken max_groups s q third
          → no_link (refusal_number r) u ≡ link_at max_groups third s place n
      c_stops r u h = stops_at s q third no_link (last a b) r u h ∙ on_b

      pub link_taken : (c u : ℕ) → a_number c u ≡ taken max_groups s q third → last a b c u ≡ link_at max_groups third s place n
      link_taken c u h = goes_on s q third no_link (last a b) c u h ∙ on_b

-- ---- the file, by n, m and the links that were read
module _ (third : ℕ → ℕ) (s : List ℕ) where
  abbrev links_on : ℕ → ℕ → ℕ → Progress
  links_on n m next = after (read_links max_groups third s m (going next (unread n m))) (ended s)

  abbrev from_m : ℕ → ℕ → Progress
  from_m n next = taking max_groups s next links_row stopped (links_on n)

  pub n_stops : (r : Refusal) (q : ℕ) → no_number (refusal_number r) q ≡ taken max_groups s 0 nodes_row
      → stopped (refusal_number r) q ≡ read_all max_groups third s
  unfolding read_all
  n_stops = stops_at s 0 nodes_row stopped from_m

  module _ (n p : ℕ) (n_is : a_number n p ≡ taken max_groups s 0 nodes_row) where
    on_n : from_m n p ≡ read_all max_groups third s
    unfolding read_all
    on_n = goes_on s 0 nodes_row stopped from_m n p n_is

    pub m_stops : (r : Refusal) (q : ℕ) → no_number (refusal_number r) q ≡ taken max_groups s p links_row
        → stopped (refusal_number r) q ≡ read_all max_groups third s
    m_stops r q h = stops_at s p links_row stopped (links_on n) r q h ∙ on_n

    module _ (m q : ℕ) (m_is : a_number m q ≡ taken max_groups s p links_row) where
      on_m : (r : Progress) → r ≡ read_links max_groups third s m (going q (unread n m)) → after r (ended s) ≡ read_all max_groups third s
      on_m r h =
          ap (λ (r : Progress). after r (ended s)) h ∙ goes_on s p links_row stopped (links_on n) m q m_is ∙ on_n

      pub links_stop : (r : Refusal) (u : ℕ) → stopped (refusal_number r) u ≡ read_links max_groups third s m (going q (unread n m))
          → stopped (refusal_number r) u ≡ read_all max_groups third s
      links_stop r u h =
          let stop = stopped (refusal_number r) u in
          sym (refused_by (refusal_number r) (ended s u no_network) (λ e. stop) (refusal_some r)) ∙ on_m stop h

      module _ (net : Network) (u : ℕ) (net_is : going u net ≡ read_links max_groups third s m (going q (unread n m))) where
        pub bytes_follow_lem : u < length s → stopped 9 u ≡ read_all max_groups third s
        bytes_follow_lem l = let h = on_m (going u net) net_is in rw (lt-ltb u (length s) l) at h

        pub all_done : length s ≤ u → going u net ≡ read_all max_groups third s
        all_done l = let h = on_m (going u net) net_is in rw (le-ltb u (length s) l) at h

-- ---- the reply, by the whole file
module _ (third : ℕ → ℕ) (s : List ℕ) where
  reply : Progress → Reading
  reply r = record { number = r.number; place = accepted r.number 0 (λ e. r.place); network = r.network }

  pub file_refused : (r : Refusal) (u : ℕ) → stopped (refusal_number r) u ≡ read_all max_groups third s
      → record { number = refusal_number r; place = u; network = no_network } ≡ read_by max_groups third s
  unfolding reply
  file_refused r u h =
      let refused : ℕ → Reading = λ place. record { number = refusal_number r; place = place; network = no_network } in
      ap refused (sym (refused_by (refusal_number r) 0 (λ e. u) (refusal_some r))) ∙ ap reply h

  pub file_read : (net : Network) (u : ℕ) → going u net ≡ read_all max_groups third s
      → record { number = 0; place = 0; network = net } ≡ read_by max_groups third s
  unfolding reply
  file_read net u h = ap reply h
