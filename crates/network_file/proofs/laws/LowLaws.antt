-- What is read within a file's limits has no capacity above theirs.
use Rattle.std.specs.Prelude.{ℕ, zero, suc, ◌+◌, ◌≤◌, ◌<◌, ◌≡◌, ◌≢◌, Bool, true, false, List, length, set, ltb}
use Rattle.std.proofs.Common.{refl, ◌∙◌, arith, get_or-set_same, length-set}
use Rattle.std.proofs.Math.Decide.{ℕ_discrete}
use Rattle.std.proofs.Math.Seq.{get_or-set_other}
use Rattle.std.proofs.lemmas.List.{length-replicate}
use Rattle.base.specs.Basics.{pick, at}
use Rattle.base.specs.Checks.{accepted}
use Rattle.base.proofs.laws.ChecksLaws.{not_above, passed_row}
use Rattle.network.specs.Limits.{max_links}
use Rattle.network.specs.declared.Network.{Network}
use Rattle.network_file.specs.Reading.{FileLimits, Link, Progress, nodes_row, links_row, end_row, other_end_row, capacity_row}
use Rattle.network_file.specs.Reading.{taking, no_link, link_at, stopped, going, unread, with_link, read_link, after, read_links}
use Rattle.network_file.specs.Reading.{ended, read_all, read_within}
use Rattle.network_file.proofs.laws.ReadingSteps.{taking_has}

-- the first k of m capacities are not above the limit
record Low (highest m k : ℕ) (net : Network) : Type 0 where
  pub links : net.links ≡ m
  pub size : length net.capacity ≡ max_links
  pub low : (i : ℕ) → i < k → at net.capacity i ≤ highest

module _ (limits : FileLimits) (s : List ℕ) where
  abbrev groups : ℕ
  groups = limits.groups

  abbrev row : ℕ → ℕ
  row = capacity_row limits.capacity

  low_link : (place n : ℕ) → (link_at groups row s place n).number ≡ 0 → (link_at groups row s place n).capacity ≤ limits.capacity
  unfolding link_at
  low_link place n =
      let P : Link → Type 0 = λ l. l.number ≡ 0 → l.capacity ≤ limits.capacity in
      let last : ℕ → ℕ → ℕ → ℕ → Link = λ a b c next. record { number = 0; place = next; a = a; b = b; capacity = c } in
      let from_c : ℕ → ℕ → ℕ → Link = λ a b next. taking groups s next row no_link (last a b) in
      let from_b : ℕ → ℕ → Link = λ a next. taking groups s next (other_end_row n a) no_link (from_c a) in
      taking_has groups s place (end_row n) P no_link from_b (λ e q. absurd (omega arith)) λ a i f l x.
      taking_has groups s (place + i) (other_end_row n a) P no_link (from_c a) (λ e q. absurd (omega arith)) λ b j g o y.
      taking_has groups s (place + i + j) row P no_link (last a b) (λ e q. absurd (omega arith)) λ c k h r z e.
      (not_above limits.capacity c).0 (passed_row (ltb limits.capacity c) 7 _ z)

  module _ (m : ℕ) (most : m ≤ max_links) where
    abbrev IsLow : ℕ → Progress → Type 0
    IsLow k r = r.number ≡ 0 → Low limits.capacity m k r.network

    one_more : (k place : ℕ) (net : Network) → k < m → Low limits.capacity m k net → IsLow (suc k) (read_link groups row s k place net)
    unfolding read_link
    one_more k place net l h = go l₁.number (low_link place net.nodes)
      where
        l₁ : Link
        l₁ = link_at groups row s place net.nodes

        low_at : (c i : ℕ) → c ≤ limits.capacity → i < suc k → Dec (i ≡ k) → at (set net.capacity k c) i ≤ limits.capacity
        low_at c i b j (yes e) = rw (e, get_or-set_same net.capacity k c 0 (omega (arith, h.size))) b
        low_at c i b j (no e) = rw (get_or-set_other net.capacity k i c 0 e) (h.low i (omega arith))

        go : (e : ℕ) → (e ≡ 0 → l₁.capacity ≤ limits.capacity)
            → IsLow (suc k) (accepted e (going l₁.place (with_link net k l₁.a l₁.b l₁.capacity)) (λ e. stopped e l₁.place))
        go zero b z =
            record {
              links = h.links;
              size = length-set net.capacity k l₁.capacity ∙ h.size;
              low = λ i j. low_at l₁.capacity i (b refl) j (ℕ_discrete i k);
            }
        go (suc e) b z = absurd (omega arith)

    after_low : (k : ℕ) (Q : Progress → Type 0) (r : Progress) (next : ℕ → Network → Progress) → (r.number ≢ 0 → Q r)
        → (Low limits.capacity m k r.network → Q (next r.place r.network)) → IsLow k r → Q (after r next)
    after_low k Q r next refused on h = go r.number refl
      where
        go : (e : ℕ) → r.number ≡ e → Q (accepted e (next r.place r.network) (λ e. r))
        go zero q = on (h q)
        go (suc e) q = refused (λ z. omega arith)

    links_low : (r : Progress) → IsLow 0 r → (k : ℕ) → k ≤ m → IsLow k (read_links groups row s k r)
    unfolding read_links
    links_low r h zero l = h
    links_low r h (suc k) l =
        let before = read_links groups row s k r in
        after_low k (IsLow (suc k)) before (read_link groups row s k) (λ n z. absurd (n z))
        (one_more k before.place before.network l) (links_low r h k (omega arith))

  -- ---- the file
  abbrev AllLow : Progress → Type 0
  AllLow r = r.number ≡ 0 → (k : ℕ) → k < r.network.links → at r.network.capacity k ≤ limits.capacity

  ended_low : (m place : ℕ) (net : Network) → Low limits.capacity m m net → AllLow (ended s place net)
  ended_low m place net h = go (ltb place (length s))
    where
      go : (b : Bool) → AllLow (pick b (stopped 9 place) (going place net))
      go true z k l = absurd (omega arith)
      go false z k l = h.low k (omega (arith, h.links))

  all_low : AllLow (read_all groups row s)
  unfolding read_all
  all_low =
      let rest : ℕ → ℕ → ℕ → Progress = λ n m next. after (read_links groups row s m (going next (unread n m))) (ended s) in
      let from_m : ℕ → ℕ → Progress = λ n next. taking groups s next links_row stopped (rest n) in
      taking_has groups s 0 nodes_row AllLow stopped from_m (λ e z. absurd (omega arith)) λ n i f l x.
      taking_has groups s (0 + i) links_row AllLow stopped (rest n) (λ e z. absurd (omega arith)) λ m j g o y.
      let most = (not_above max_links m).0 (passed_row (ltb max_links m) 4 _ y) in
      let r = read_links groups row s m (going (0 + i + j) (unread n m)) in
      let start : Low limits.capacity m 0 (unread n m) =
      record { links = refl; size = length-replicate {A = ℕ} max_links 0; low = λ i j. absurd (omega arith) } in
      after_low m most m AllLow r (ended s) (λ n z. absurd (n z)) (ended_low m r.place r.network)
      (links_low m most (going (0 + i + j) (unread n m)) (λ z. start) m (omega arith))

  pub accepted_low : (read_within limits s).number ≡ 0 → (k : ℕ) → k < (read_within limits s).network.links
      → at (read_within limits s).network.capacity k ≤ limits.capacity
  accepted_low z = all_low z
