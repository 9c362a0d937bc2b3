-- The links of a file in the steps of the code: the loop that reads one after the other, and the first that is refused.
use Rattle.std.specs.Prelude.{ℕ, zero, suc, ◌+◌, ◌≤◌, ◌<◌, ◌≡◌, ◌≢◌, List, set}
use Rattle.std.proofs.Common.{refl, sym, ap, ◌∙◌, arith, add-one}
use Rattle.std.proofs.Math.Decide.{ℕ_discrete}
use Rattle.base.specs.Checks.{accepted}
use Rattle.network.specs.Limits.{max_groups}
use Rattle.network.specs.Refusals.{refusal_number}
use Rattle.network.specs.declared.Network.{Network}
use Rattle.network.specs.declared.refusals.Refusal.{Refusal}
use Rattle.network_file.specs.Reading.{no_link, link_at, stopped, going, unread, with_link, read_link, after, read_links}
use Rattle.network_file.specs.Reading.{Link, Progress}
use Rattle.network.proofs.laws.RefusalLaws.{refusal_some}

-- ---- a refusal stays
module _ (third : ℕ → ℕ) (s : List ℕ) (r : Progress) (e place k : ℕ) (h : read_links max_groups third s k r ≡ stopped (suc e) place) where
  stays : (m : ℕ) → k ≤ m → read_links max_groups third s m r ≡ stopped (suc e) place
  unfolding read_links
  stays zero l = let q : 0 ≡ k = omega arith in ap (λ (j : ℕ). read_links max_groups third s j r) q ∙ h
  stays (suc m) l = go (ℕ_discrete k (suc m)) (stays m)
    where
      go : Dec (k ≡ suc m) → (k ≤ m → read_links max_groups third s m r ≡ stopped (suc e) place)
          → after (read_links max_groups third s m r) (read_link max_groups third s m) ≡ stopped (suc e) place
      go (yes q) ih = ap (λ (j : ℕ). read_links max_groups third s j r) (sym q) ∙ h
      go (no q) ih = ap (λ (p : Progress). after p (read_link max_groups third s m)) (ih (omega arith))

-- ---- the loop: k links are read into the network
pub record LinksRead (third : ℕ → ℕ) (s : List ℕ) (n m place : ℕ) (net : Network) (next k : ℕ) : Type 0 where
  pub some : k ≤ m
  pub nodes : net.nodes ≡ n
  pub is : read_links max_groups third s k (going place (unread n m)) ≡ going next net

pub none_read : (third : ℕ → ℕ) (s : List ℕ) (n m place : ℕ) → LinksRead third s n m place (unread n m) place 0
unfolding read_links
none_read third s n m place = record { some = omega arith; nodes = refl; is = refl }

module _ {third : ℕ → ℕ} {s : List ℕ} {n m place : ℕ} {net : Network} {next k : ℕ} (h : LinksRead third s n m place net next k) where
  by_link : Link → Progress
  by_link l = accepted l.number (going l.place (with_link net k l.a l.b l.capacity)) (λ e. stopped e l.place)

  module _ (km : k < m) (link : Link) (link_is : link ≡ link_at max_groups third s next n) where
    link_next : read_links max_groups third s (suc k) (going place (unread n m)) ≡ by_link link
    unfolding read_links read_link by_link
    link_next =
        ap (λ (p : Progress). after p (read_link max_groups third s k)) h.is
        ∙ ap (λ (j : ℕ). by_link (link_at max_groups third s next j)) h.nodes ∙ sym (ap by_link link_is)

  module _ (km : k < m) (new : Network) (a b c u : ℕ)
      (nodes_is : new.nodes ≡ net.nodes) (links_is : new.links ≡ net.links)
      (a_is : new.a ≡ set net.a k a) (b_is : new.b ≡ set net.b k b) (capacity_is : new.capacity ≡ set net.capacity k c)
      (link_is : record { number = 0; place = u; a = a; b = b; capacity = c } ≡ link_at max_groups third s next n) where
    new_is : with_link net k a b c ≡ new
    new_is i = record {
      nodes = sym nodes_is i;
      links = sym links_is i;
      a = sym a_is i;
      b = sym b_is i;
      capacity = sym capacity_is i;
    }

    pub one_more : LinksRead third s n m place new u (k + 1)
    unfolding by_link
    one_more =
        let is = link_next km _ link_is ∙ ap (going u) new_is in
        record { some = omega arith; nodes = nodes_is ∙ h.nodes; is = rw add-one is }

  pub one_refused : k < m → (r : Refusal) (u : ℕ) → no_link (refusal_number r) u ≡ link_at max_groups third s next n
      → stopped (refusal_number r) u ≡ read_links max_groups third s m (going place (unread n m))
  unfolding by_link
  one_refused km r u link_is = go (refusal_number r) (refusal_some r) link_is
    where
      go : (e : ℕ) → e ≢ 0 → no_link e u ≡ link_at max_groups third s next n
          → stopped e u ≡ read_links max_groups third s m (going place (unread n m))
      go zero z q = absurd (z refl)
      go (suc e) z q = sym (stays third s (going place (unread n m)) e u (suc k) (link_next km (no_link (suc e) u) q) m km)
