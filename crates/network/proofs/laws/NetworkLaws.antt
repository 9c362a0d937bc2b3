-- What the limits of a network say, and that a changed capacity keeps them.
use Rattle.std.proofs.Common.{◌≡◌, ◌≢◌, Bool, true, ℕ, ◌≤◌, ◌<◌, ◌∙◌, length-set, drop-set-lt, arith}
use Rattle.std.proofs.Common.{ltb-true, leb-true, le-leb}
use Rattle.std.proofs.Math.Decide.{dec_lt}
use Rattle.std.proofs.lemmas.Bool.{eqb-false, not-true}
use Rattle.base.proofs.laws.Bools.{bool2}
use Rattle.min_cut.specs.Cut.{Side, crossing, cut_value, Within}
use Rattle.base.specs.Basics.{at}
use Rattle.base.proofs.laws.BlankLaws.{blank_above}
use Rattle.base.proofs.laws.ListLaws.{set_le}
use Rattle.base.proofs.laws.TestLaws.{all_at, all_in, none, ◌&◌, shown, test, head, rest, keep}
use Rattle.network.specs.Limits.{max_nodes, max_links, max_capacity, max_value}
use Rattle.network.specs.Network.{link_fits, network_fits, WithinLimits, with_capacity, graph, value_of}
use Rattle.network.specs.declared.Network.{Network}
use Rattle.base.proofs.laws.SumLaws.{sum_most}

module _ (net : Network) (e : network_fits net ≡ true) where
  pub nodes_pos : 0 < net.nodes
  unfolding network_fits
  nodes_pos = leb-true 1 net.nodes (head (shown _ e))

  pub nodes_le : net.nodes ≤ max_nodes
  unfolding network_fits
  nodes_le = leb-true net.nodes max_nodes (head (rest (shown _ e)))

  pub links_le : net.links ≤ max_links
  unfolding network_fits
  links_le = leb-true net.links max_links (head (rest (rest (shown _ e))))

  pub link_fits_lem : (k : ℕ) → k < net.links → link_fits net k ≡ true
  unfolding network_fits
  link_fits_lem k l = all_at net.links (link_fits net) (head (rest (rest (rest (shown _ e))))) k l

  pub ends_within : Within (graph net) net.nodes
  ends_within k l = (ltb-true _ _ (head (shown _ (link_fits_lem k l))), ltb-true _ _ (head (rest (shown _ (link_fits_lem k l)))))

  -- the places of link k's numbers, and its ends in a set of nodes
  pub link_places : (k : ℕ) → k < net.links → (k < max_links) × (at net.a k < max_nodes) × (at net.b k < max_nodes)
  link_places k l = omega (arith, nodes_le, links_le, ends_within k l)

  pub ends_differ : (k : ℕ) → k < net.links → at net.b k ≢ at net.a k
  ends_differ k l = eqb-false _ _ (not-true _ (head (rest (rest (shown _ (link_fits_lem k l))))))

  pub capacity_le : (k : ℕ) → k < net.links → at net.capacity k ≤ max_capacity
  capacity_le k l = leb-true _ _ (head (rest (rest (rest (shown _ (link_fits_lem k l))))))

  -- an unused place
  pub capacity_none : (k : ℕ) → net.links ≤ k → at net.capacity k ≡ 0
  unfolding network_fits
  capacity_none k l =
      let unused = head (rest (rest (rest (rest (rest (rest (shown _ e))))))) in
      blank_above net.links net.capacity unused k l

-- what an index is within
pub ruleset limits = (nodes_le, links_le)

crossing_le : (c : ℕ) (x y : Bool) → crossing x y c ≤ c
crossing_le c = bool2 _ (omega arith)

-- no cut value is above the limit of values
pub value_le : (net : Network) → network_fits net ≡ true → (X : Side) → value_of net X ≤ max_value
unfolding cut_value
value_le net e X =
    omega (
      arith,
      links_le net e,
      sum_most net.links max_capacity (λ i. crossing (X (at net.a i)) (X (at net.b i)) (at net.capacity i))
          (λ i l. omega (
            arith,
            capacity_le net e i l,
            crossing_le (at net.capacity i) (X (at net.a i)) (X (at net.b i)),
          )),
    )

-- one capacity is changed
module _ (net : Network) (k c : ℕ) (kl : k < net.links) (cl : c ≤ max_capacity) where
  module _ (e : network_fits net ≡ true) where
    -- a capacity at any place, used or not
    any_capacity : (i : ℕ) → at net.capacity i ≤ max_capacity
    any_capacity i = go (dec_lt i net.links)
      where
        go : Dec (i < net.links) → at net.capacity i ≤ max_capacity
        go (yes l) = capacity_le net e i l
        go (no l) = omega (arith, capacity_none net e i (omega arith))

    same_link : (i : ℕ) → link_fits net i ≡ true → link_fits (with_capacity net k c) i ≡ true
    same_link i f =
        test (keep (keep (keep (λ u. le-leb _ _ (set_le max_capacity net.capacity k c cl any_capacity i) & none))) (shown _ f))

    pub change_fits : network_fits (with_capacity net k c) ≡ true
    unfolding network_fits
    change_fits =
        test (keep
        (keep (keep
        (λ h. all_in net.links (link_fits (with_capacity net k c))
        (λ i l. same_link i (all_at net.links (link_fits net) (head h) i l))
        & keep (keep (λ u. rw (drop-set-lt net.links net.capacity k c kl) (head u) & none)) (rest h)))) (shown _ e))

  pub change_within : WithinLimits net → WithinLimits (with_capacity net k c)
  change_within w = record {
    fits = change_fits w.fits;
    sized = record { a = w.sized.a; b = w.sized.b; capacity = length-set net.capacity k c ∙ w.sized.capacity };
  }
