-- The lightest edge of a tree of n nodes: it is the lightest of their edges, and a pass in the order of the nodes finds it.
use Rattle.std.specs.Prelude.{ℕ, ◌+◌, ◌≤◌, ◌<◌, ◌≡◌, Bool, true, false, ◌&&◌, List, ltb}
use Rattle.std.proofs.Math.Path.{refl}
use Rattle.std.proofs.Common.{sym, ap, ap₂, subst, ◌∙◌, true≢false, arith, eqb-true, eq-eqb, lt-ltb, le-ltb, ltb-true}
use Rattle.std.proofs.Math.Decide.{ℕ_discrete}
use Rattle.base.specs.Basics.{at}
use Rattle.base.proofs.laws.TestLaws.{shown, head, rest, none, ◌&◌, test}
use Rattle.network.specs.Limits.{max_nodes}
use Rattle.cut_tree.specs.Path.{lightest_of}
use Rattle.cut_tree.specs.Answer.{LowestLightest}
use Rattle.cut_tree.proofs.theorems.SameEdge.{one_lightest}
use Rattle.cut_tree.specs.LightestEdge.{edges_of, no_edge, lightest_among, equal_edges}
use Rattle.cut_tree.proofs.laws.LightestLaws.{Best, first_best}
use Rattle.cut_tree.specs.declared.Edge.{Edge}

-- ---- two edges
pub edges_equal : (x y : Edge) → equal_edges x y ≡ true → x ≡ y
edges_equal x y e =
    let h = shown _ e in
    λ i. record { node = eqb-true x.node y.node (head h) i; weight = eqb-true x.weight y.weight (head (rest h)) i }

pub equal_edges_lem : (x y : Edge) → x ≡ y → equal_edges x y ≡ true
equal_edges_lem x y e = rw e (test (eq-eqb y.node y.node refl & eq-eqb y.weight y.weight refl & none))

-- ---- the nodes from 1 up
pub edge_is : (n v : ℕ) → 0 < v → v < n → edges_of n v ≡ true
edge_is n v p l = ap₂ ◌&&◌ (lt-ltb 0 v p) (lt-ltb v n l)

pub is_edge_lem : (n v : ℕ) → edges_of n v ≡ true → (0 < v) × (v < n)
is_edge_lem n v e = go (ltb 0 v) (ltb v n) refl refl e
  where
    go : (x y : Bool) → ltb 0 v ≡ x → ltb v n ≡ y → (x && y) ≡ true → (0 < v) × (v < n)
    go true true p q e = (ltb-true 0 v p, ltb-true v n q)
    go true false p q e = absurd (true≢false (sym e))
    go false y p q e = absurd (true≢false (sym e))

module _ (weight : List ℕ) where
  abbrev edge : ℕ → Edge
  edge v = record { node = v; weight = at weight v }

  -- ---- the lightest edge: none with one node, else that of `lightest_of`
  pub edge_none : (n : ℕ) → n ≤ 1 → lightest_among n weight ≡ no_edge
  unfolding lightest_among
  edge_none n l = rw (le-ltb 1 n l)

  pub edge_some : (n : ℕ) → 1 < n → lightest_among n weight ≡ edge (lightest_of weight (edges_of n))
  unfolding lightest_among
  edge_some n l = rw (lt-ltb 1 n l)

  edges_best : (n : ℕ) → n ≤ max_nodes → Best weight (edges_of n) (lightest_of weight (edges_of n))
  unfolding lightest_of
  edges_best n few = first_best weight (edges_of n) max_nodes refl (λ u e. omega (arith, (is_edge_lem n u e).1))

  -- it is lightest, and the lowest among equals; and one that is so is it
  pub edge_lowest : (n : ℕ) → n ≤ max_nodes → 1 < n → LowestLightest weight (edges_of n) (lightest_among n weight).node
  edge_lowest n few two =
      let best = edges_best n few in
      rw (edge_some n two) (best.here (best.some 1 (edge_is n 1 (omega arith) two)))

  pub edge_unique : (n v : ℕ) → n ≤ max_nodes → 1 < n → LowestLightest weight (edges_of n) v → lightest_among n weight ≡ edge v
  edge_unique n v few two h =
      let e : (lightest_among n weight).node ≡ v = one_lightest weight (edges_of n) _ v (edge_lowest n few two) h in
      edge_some n two ∙ ap edge (sym (ap (λ (x : Edge). x.node) (edge_some n two)) ∙ e)

  -- ---- a pass in the order of the nodes: node 1's edge, and then each later one that is lighter
  pub lowest_first : LowestLightest weight (edges_of 2) 1
  lowest_first = record {
    lightest = record { is_on_path = edge_is 2 1 (omega arith) (omega arith); least = λ u e. rw (one u e) (omega arith) };
    lowest = λ u e q. omega (arith, one u e);
  }
    where
      one : (u : ℕ) → edges_of 2 u ≡ true → u ≡ 1
      one u e = omega (arith, is_edge_lem 2 u e)

  module _ (i b : ℕ) (p : 0 < i) (h : LowestLightest weight (edges_of i) b) where
    -- what holds of the edges before and of i's holds of all
    each : (P : ℕ → Type 0) → ((u : ℕ) → edges_of i u ≡ true → P u) → P i → (u : ℕ) → edges_of (i + 1) u ≡ true → P u
    each P f x u e = go (ℕ_discrete u i)
      where
        go : Dec (u ≡ i) → P u
        go (yes q) = subst P (sym q) x
        go (no q) = let v = is_edge_lem (i + 1) u e in f u (edge_is i u v.0 (omega (arith, v.1)))

    pub lowest_next : at weight i < at weight b → LowestLightest weight (edges_of (i + 1)) i
    lowest_next l = record {
      lightest = record {
        is_on_path = edge_is (i + 1) i p (omega arith);
        least = each (λ u. at weight i ≤ at weight u) (λ u e. omega (arith, h.lightest.least u e)) (omega arith);
      };
      lowest =
          each (λ u. at weight u ≡ at weight i → i ≤ u) (λ u e q. absurd (omega (arith, h.lightest.least u e))) (λ q. omega arith);
    }

    pub lowest_still : at weight b ≤ at weight i → LowestLightest weight (edges_of (i + 1)) b
    lowest_still l =
        let v = is_edge_lem i b h.lightest.is_on_path in
        record {
          lightest = record {
            is_on_path = edge_is (i + 1) b v.0 (omega (arith, v.1));
            least = each (λ u. at weight b ≤ at weight u) h.lightest.least l;
          };
          lowest = each (λ u. at weight u ≡ at weight b → b ≤ u) h.lowest (λ q. omega (arith, v.1));
        }
