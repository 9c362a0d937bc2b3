-- The network that is filled while a file is read: its first k links are within the limits, its other places are 0.
use Rattle.std.specs.Prelude.{ℕ, zero, suc, ◌≤◌, ◌<◌, ◌++◌, set, ◌≡◌, ◌≢◌, true, not}
use Rattle.std.proofs.Common.{refl, ap, ◌∙◌, arith, lt-ltb, ne_eqb, get_or-set_same, length-set}
use Rattle.std.proofs.Common.{le-leb}
use Rattle.std.proofs.Math.Decide.{ℕ_discrete}
use Rattle.std.proofs.lemmas.List.{length-replicate}
use Rattle.std.proofs.Math.Seq.{get_or-set_other}
use Rattle.base.specs.Basics.{at}
use Rattle.base.proofs.laws.TestLaws.{all_in, none, ◌&◌, test}
use Rattle.base.proofs.laws.BlankLaws.{blank_in, zeros_at}
use Rattle.network.specs.Limits.{max_nodes, max_links, max_capacity, max_groups}
use Rattle.network.specs.Network.{link_fits, network_fits, Sized, WithinLimits}
use Rattle.network.specs.declared.Network.{Network}
use Rattle.network_file.specs.Number.{number_bytes}
use Rattle.network_file.specs.Reading.{unread, with_link}
use Rattle.network_file.specs.Writing.{link_bytes}

pub record Filled (n m k : ℕ) (net : Network) : Type 0 where
  pub nodes : net.nodes ≡ n
  pub links : net.links ≡ m
  pub sized : Sized net
  pub fit : (i : ℕ) → i < k → link_fits net i ≡ true
  pub a : (x : ℕ) → k ≤ x → at net.a x ≡ 0
  pub b : (x : ℕ) → k ≤ x → at net.b x ≡ 0
  pub capacity : (x : ℕ) → k ≤ x → at net.capacity x ≡ 0

pub unread_filled : (n m : ℕ) → Filled n m 0 (unread n m)
unread_filled n m =
    let sized = length-replicate {A = ℕ} max_links 0 in
    record {
      nodes = refl;
      links = refl;
      sized = record { a = sized; b = sized; capacity = sized };
      fit = λ i l. absurd (omega arith);
      a = λ x l. zeros_at max_links x;
      b = λ x l. zeros_at max_links x;
      capacity = λ x l. zeros_at max_links x;
    }

-- link k is put in
module _ (n m k : ℕ) (net : Network) (f : Filled n m k net) (kl : k < max_links) (a b c : ℕ) where
  a_same : at (set net.a k a) k ≡ a
  a_same = get_or-set_same net.a k a 0 (omega (arith, f.sized.a))

  b_same : at (set net.b k b) k ≡ b
  b_same = get_or-set_same net.b k b 0 (omega (arith, f.sized.b))

  c_same : at (set net.capacity k c) k ≡ c
  c_same = get_or-set_same net.capacity k c 0 (omega (arith, f.sized.capacity))

  pub link_filled : a < n → b < n → b ≢ a → c ≤ max_capacity → Filled n m (suc k) (with_link net k a b c)
  link_filled al bl d cl =
      record {
        nodes = f.nodes;
        links = f.links;
        sized = record {
          a = length-set net.a k a ∙ f.sized.a;
          b = length-set net.b k b ∙ f.sized.b;
          capacity = length-set net.capacity k c ∙ f.sized.capacity;
        };
        fit = λ i l. fits i l (ℕ_discrete i k);
        a = λ x l. get_or-set_other net.a k x a 0 (omega arith) ∙ f.a x (omega arith);
        b = λ x l. get_or-set_other net.b k x b 0 (omega arith) ∙ f.b x (omega arith);
        capacity = λ x l. get_or-set_other net.capacity k x c 0 (omega arith) ∙ f.capacity x (omega arith);
      }
    where
      fits : (i : ℕ) → i < suc k → Dec (i ≡ k) → link_fits (with_link net k a b c) i ≡ true
      fits i l (yes e) =
          rw (e, a_same, b_same, c_same)
          (test (rw f.nodes (lt-ltb a n al) & rw f.nodes (lt-ltb b n bl) & ap not (ne_eqb b a d) & le-leb c max_capacity cl & none))
      fits i l (no e) =
          rw (get_or-set_other net.a k i a 0 e, get_or-set_other net.b k i b 0 e, get_or-set_other net.capacity k i c 0 e)
          (f.fit i (omega arith))

  -- the bytes of the links so far do not change
  bytes_below : (j : ℕ) → j ≤ k → link_bytes max_groups (with_link net k a b c) j ≡ link_bytes max_groups net j
  unfolding link_bytes
  bytes_below zero l = refl
  bytes_below (suc j) l =
      let d : j ≢ k = omega arith in
      rw (
        bytes_below j (omega arith),
        get_or-set_other net.a k j a 0 d,
        get_or-set_other net.b k j b 0 d,
        get_or-set_other net.capacity k j c 0 d,
      )

  pub bytes_more : link_bytes max_groups (with_link net k a b c) (suc k)
      ≡ link_bytes max_groups net k ++ (number_bytes a ++ (number_bytes b ++ number_bytes c))
  unfolding link_bytes
  bytes_more = rw (bytes_below k (omega arith), a_same, b_same, c_same)

-- all links are in
pub filled_within : (n m : ℕ) (net : Network) → Filled n m m net → 1 ≤ n → n ≤ max_nodes → m ≤ max_links → WithinLimits net
unfolding network_fits
filled_within n m net f np nl ml =
    let e : net.links ≡ m = f.links in
    let d : net.nodes ≡ n = f.nodes in
    record {
      fits =
          test (le-leb 1 net.nodes (omega arith) & le-leb net.nodes max_nodes (omega arith)
          & le-leb net.links max_links (omega arith)
          & all_in net.links (link_fits net) (λ i l. f.fit i (omega arith))
          & blank_in net.links net.a (λ x l. f.a x (omega arith))
          & blank_in net.links net.b (λ x l. f.b x (omega arith))
          & blank_in net.links net.capacity (λ x l. f.capacity x (omega arith)) & none);
      sized = f.sized;
    }
