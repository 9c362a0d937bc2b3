-- The tests of a tree's weights and of its lightest edge, answered together: that the edge is one of the tree's, and each node's weight
-- beside it.
use Rattle.std.proofs.Common.{ℕ, zero, suc, ◌≤◌, ◌<◌, ◌≡◌, refl, sym, ap, subst, ◌∙◌, Bool, true, false, true≢false, not, ◌||◌}
use Rattle.std.proofs.Common.{List, [], ◌∷◌}
use Rattle.std.proofs.Common.{ltb, eqb, arith, leb, lt-ltb, le-ltb, le-leb, leb-true, ltb-true, eq-eqb, ne_eqb, eqb-true}
use Rattle.std.proofs.Math.Bool.{or-true}
use Rattle.std.proofs.Math.Decide.{dec_lt}
use Rattle.std.proofs.lemmas.Bool.{eqb-false, not-true}
use Rattle.std.specs.List.{list_all, range_with_len}
use Rattle.base.specs.Basics.{at, all}
use Rattle.base.proofs.laws.Bools.{and_l, and_r, both, never_true}
use Rattle.base.proofs.laws.TestLaws.{all_at, all_in, Every, shown, head, rest, none, ◌&◌, test}
use Rattle.network.specs.Limits.{max_nodes, max_value}
use Rattle.cut_tree.specs.Answer.{LowestLightest}
use Rattle.cut_tree.specs.LightestEdge.{edges_of, no_edge, lightest_among}
use Rattle.cut_tree.proofs.laws.EdgeLaws.{edges_equal, equal_edges_lem, edge_is, is_edge_lem, edge_none, edge_some}
use Rattle.cut_tree.proofs.laws.EdgeLaws.{edge_lowest, edge_unique}
use Rattle.cut_tree.specs.declared.Edge.{Edge}
use Rattle.plan.proofs.laws.SoundLaws.{all_from_one}
use Rattle.plan.specs.code.SoundParts.{weights_within, is_edge, weight_within, weights_fit}

-- the weights of the nodes from 1 to before k pass
abbrev pub Each : List ℕ → Edge → ℕ → Type 0
Each weight e k = (i : ℕ) → 0 < i → i < k → weight_within e i (at weight i) ≡ true

module _ (n : ℕ) (few : n ≤ max_nodes) (weight : List ℕ) where
  abbrev lightest : Edge
  lightest = lightest_among n weight

  -- ---- the lightest edge passes
  module _ (two : 1 < n) where
    lowest : LowestLightest weight (edges_of n) lightest.node
    lowest = edge_lowest weight n few two

    own_weight : at weight lightest.node ≡ lightest.weight
    own_weight = rw (edge_some weight n two)

  lightest_own : is_edge n weight lightest ≡ true
  unfolding is_edge
  lightest_own = go (dec_lt 1 n)
    where
      go : Dec (1 < n) → is_edge n weight lightest ≡ true
      go (yes two) =
          let v = is_edge_lem n lightest.node (lowest two).lightest.is_on_path in
          let named = ap not (ne_eqb lightest.node 0 (λ z. omega (arith, v.0, z))) in
          rw (lt-ltb 1 n two) (test (named & lt-ltb _ n v.1 & eq-eqb _ _ (own_weight two) & none))
      go (no one) = rw (le-ltb 1 n (omega arith)) (equal_edges_lem lightest no_edge (edge_none weight n (omega arith)))

  lightest_each : (i : ℕ) → 0 < i → i < n → at weight i ≤ max_value → weight_within lightest i (at weight i) ≡ true
  unfolding weight_within
  lightest_each i p l most =
      let two : 1 < n = omega arith in
      let own = own_weight two in
      let on = edge_is n i p l in
      let least = (lowest two).lightest.least i on in
      test (le-leb (at weight i) max_value most & le-leb lightest.weight (at weight i) (omega arith)
      & later (dec_lt lightest.weight (at weight i))
      (λ m. (lowest two).lowest i on (omega arith)) & none)
    where
      later : Dec (lightest.weight < at weight i) → (¬ (lightest.weight < at weight i) → lightest.node ≤ i)
          → (ltb lightest.weight (at weight i) || leb lightest.node i) ≡ true
      later (yes m) low = rw (lt-ltb lightest.weight (at weight i) m)
      later (no m) low = rw (le-leb lightest.node i (low m)) (or-true (ltb lightest.weight (at weight i)))

  module _ (e : Edge) where
    -- ---- where both tests hold
    module _ (h : weights_fit n weight e ≡ true) where
      within : (i : ℕ) → i < n → at weight i ≤ max_value
      unfolding weights_fit
      within i l = leb-true _ _ (all_at n (λ i. leb (at weight i) max_value) (and_l _ _ h) i l)

      is : lightest ≡ e
      unfolding weights_fit
      is = sym (edges_equal e lightest (and_r (weights_within n weight) _ h))

      own : is_edge n weight e ≡ true
      own = subst (λ (x : Edge). is_edge n weight x ≡ true) is lightest_own

      each : Each weight e n
      each i p l = subst (λ (x : Edge). weight_within x i (at weight i) ≡ true) is (lightest_each i p l (within i l))

    -- so one that fails settles it
    pub not_own : is_edge n weight e ≡ false → weights_fit n weight e ≡ false
    not_own f = never_true _ (λ h. true≢false (sym (own h) ∙ f))

    pub not_each : (i : ℕ) → 0 < i → i < n → weight_within e i (at weight i) ≡ false → weights_fit n weight e ≡ false
    not_each i p l f = never_true _ (λ h. true≢false (sym (each h i p l) ∙ f))

    -- ---- and only there
    module _ (z : at weight 0 ≡ 0) (o : is_edge n weight e ≡ true) (h : Each weight e n) where
      all_within : (i : ℕ) → i < n → leb (at weight i) max_value ≡ true
      unfolding weight_within
      all_within zero l = rw z
      all_within (suc i) l = head (shown _ (h (suc i) (omega arith) l))

      module _ (two : 1 < n) where
        tests : Every (not (eqb e.node 0) ∷ ltb e.node n ∷ eqb (at weight e.node) e.weight ∷ [])
        unfolding is_edge
        tests = shown _ (rw (lt-ltb 1 n two) at o)

        has : at weight e.node ≡ e.weight
        has = eqb-true _ _ (head (rest (rest tests)))

        not_lighter : (u : ℕ) → edges_of n u ≡ true → e.weight ≤ at weight u
        unfolding weight_within
        not_lighter u on = let (p, l) = is_edge_lem n u on in leb-true _ _ (head (rest (shown _ (h u p l))))

        no_lower : (u : ℕ) → edges_of n u ≡ true → at weight u ≡ e.weight → e.node ≤ u
        unfolding weight_within
        no_lower u on q =
            let (p, l) = is_edge_lem n u on in
            let t : (ltb e.weight (at weight u) || leb e.node u) ≡ true = head (rest (rest (shown _ (h u p l)))) in
            leb-true _ _ (rw (le-ltb e.weight (at weight u) (omega arith)) at t)

        above : 0 < e.node
        above = omega (arith, eqb-false e.node 0 (not-true _ (head tests)))

        is_lowest : LowestLightest weight (edges_of n) e.node
        is_lowest = record {
          lightest = record {
            is_on_path = edge_is n e.node above (ltb-true _ _ (head (rest tests)));
            least = λ u on. omega (arith, has, not_lighter u on);
          };
          lowest = λ u on q. no_lower u on (q ∙ has);
        }

      is_lightest : e ≡ lightest
      unfolding is_edge
      is_lightest = go (dec_lt 1 n)
        where
          go : Dec (1 < n) → e ≡ lightest
          go (yes two) =
              let given : ◌≡◌ {A = Edge} (record { node = e.node; weight = at weight e.node }) e =
              λ i. record { node = e.node; weight = has two i } in
              sym (edge_unique weight n e.node few two (is_lowest two) ∙ given)
          go (no one) =
              edges_equal e no_edge (rw (le-ltb 1 n (omega arith)) at o) ∙ sym (edge_none weight n (omega arith))

      pub fits : weights_fit n weight e ≡ true
      unfolding weights_fit
      fits = both (all_in n (λ i. leb (at weight i) max_value) all_within) (equal_edges_lem e lightest is_lightest)

    -- ---- so the tests of the nodes, as an iterator makes them, answer both
    abbrev pub weight_test : ℕ → Bool
    weight_test i = weight_within e i (at weight i)

    abbrev after_zero : ℕ → Bool
    after_zero zero = true
    after_zero (suc i) = weight_test (suc i)

    other_weight : (i : ℕ) → 0 < i → weight_test i ≡ after_zero i
    other_weight zero l = absurd (omega arith)
    other_weight (suc i) l = refl

    each_of : all n after_zero ≡ true → Each weight e n
    each_of h zero p l = absurd (omega arith)
    each_of h (suc i) p l = all_at n after_zero h (suc i) l

    all_of : Each weight e n → all n after_zero ≡ true
    all_of h = all_in n after_zero go
      where
        go : (i : ℕ) → i < n → after_zero i ≡ true
        go zero l = refl
        go (suc i) l = h (suc i) (omega arith) l

    pub weights_from_one : (m : ℕ) → suc m ≡ n → at weight 0 ≡ 0 → is_edge n weight e ≡ true
        → list_all weight_test (range_with_len 1 m) ≡ weights_fit n weight e
    weights_from_one m s z o = all_from_one weight_test after_zero other_weight n m s refl ∙ go (all n after_zero) refl
      where
        go : (x : Bool) → all n after_zero ≡ x → all n after_zero ≡ weights_fit n weight e
        go true h = h ∙ sym (fits z o (each_of h))
        go false h = h ∙ sym (never_true _ (λ w. true≢false (sym (all_of (each w)) ∙ h)))
