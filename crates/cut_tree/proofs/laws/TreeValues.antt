-- The tree as a network: no side has a larger value in the network than in the tree, and a subtree has its edge's weight in the tree.
use Rattle.std.specs.Prelude.{◌≡◌, Bool, true, false}
use Rattle.std.proofs.Math.Path.{refl, sym, ap}
use Rattle.std.proofs.Common.{subst, ◌∙◌, true≢false}
use Rattle.std.proofs.Math.Bool.{not}
use Rattle.std.specs.Prelude.{ℕ, suc, ◌+◌, ◌-◌, ◌≤◌, ◌<◌}
use Rattle.std.proofs.Common.{arith}
use Rattle.base.proofs.laws.SumLaws.{sum_ext, sum_zero, sum_le, sum_term, sum_single, sum_swap}
use Rattle.base.specs.Sum.{sum}
use Rattle.min_cut.specs.Cut.{Net, Side, crossing, cut_value, Within}
use Rattle.min_cut.proofs.laws.GusfieldPairs.{Edge, edge}
use Rattle.base.specs.Basics.{at}
use Rattle.cut_tree.specs.Definition1.{tree_net}
use Rattle.cut_tree.proofs.laws.RuleTree.{Placed}
use Rattle.cut_tree.specs.declared.Tree.{Tree}

sum_crossing : (m : ℕ) (f : ℕ → ℕ) (x y : Bool) → sum m (λ k. crossing x y (f k)) ≡ crossing x y (sum m f)
sum_crossing m f true true = sum_zero m (λ k. 0) (λ k l. refl)
sum_crossing m f true false = refl
sum_crossing m f false true = refl
sum_crossing m f false false = sum_zero m (λ k. 0) (λ k l. refl)

crossing_same : (c : ℕ) (x y : Bool) → x ≡ y → crossing x y c ≡ 0
crossing_same c true true e = refl
crossing_same c true false e = absurd (true≢false e)
crossing_same c false true e = absurd (true≢false (sym e))
crossing_same c false false e = refl

crossing_apart : (c : ℕ) (x y : Bool) → x ≡ not y → crossing x y c ≡ c
crossing_apart c true true e = absurd (true≢false e)
crossing_apart c true false e = refl
crossing_apart c false true e = refl
crossing_apart c false false e = absurd (true≢false (sym e))

module _ (G : Net) (n : ℕ) (w : Within G n) (tree : Tree) (T : Placed G n tree) where
  -- what X crosses of link k, where the subtree of tree edge i and X both do so
  share : Side → ℕ → ℕ → ℕ
  share X i k = crossing (X (suc i)) (X (at tree.parent (suc i))) (crossing (T.0 (suc i) (G.a k)) (T.0 (suc i) (G.b k)) (G.c k))

  -- a link that X crosses has between its ends a tree edge that X crosses, whose subtree the link leaves
  link_le : (X : Side) (k : ℕ) → k < G.m → crossing (X (G.a k)) (X (G.b k)) (G.c k) ≤ sum (n - 1) (λ i. share X i k)
  unfolding share
  link_le X k l = go (X (G.a k)) refl (X (G.b k)) refl
    where
      u : ℕ
      u = G.a k

      v : ℕ
      v = G.b k

      over : X u ≡ not (X v) → G.c k ≤ sum (n - 1) (λ i. share X i k)
      over e =
          let r = T.1 in
          let d : Edge G n (at tree.parent) (at tree.weight) T.0 r T.2 X u v =
          edge G n (at tree.parent) (at tree.weight) T.0 r T.2 X (suc (r u + r v)) u v (omega arith) (w k l).0 (w k l).1 e in
          let x : ℕ = d.0 in
          let xp : 0 < x = d.1 in
          let xl : x < n = d.2 in
          let q : x ≡ suc (x - 1) = omega arith in
          let f : share X (x - 1) k ≡ G.c k =
          subst (λ y. crossing (X y) (X (at tree.parent y)) (crossing (T.0 y u) (T.0 y v) (G.c k)) ≡ G.c k) q
          (crossing_apart (crossing (T.0 x u) (T.0 x v) (G.c k)) (X x) (X (at tree.parent x)) d.4
          ∙ crossing_apart (G.c k) (T.0 x u) (T.0 x v) d.3) in
          omega (arith, sum_term (n - 1) (λ i. share X i k) (x - 1) (omega arith), f)

      go : (a : Bool) → X u ≡ a → (b : Bool) → X v ≡ b → crossing a b (G.c k) ≤ sum (n - 1) (λ i. share X i k)
      go true p true q = omega arith
      go true p false q = over (p ∙ sym (ap not q))
      go false p true q = over (p ∙ sym (ap not q))
      go false p false q = omega arith

  -- NO SIDE HAS A LARGER VALUE IN THE NETWORK THAN IN THE TREE
  pub value_le_tree : (X : Side) → cut_value G X ≤ cut_value (tree_net n tree) X
  unfolding cut_value share
  value_le_tree X =
      omega (
        arith,
        sum_le G.m (λ k. crossing (X (G.a k)) (X (G.b k)) (G.c k)) (λ k. sum (n - 1) (λ i. share X i k)) (link_le X),
        sum_swap G.m (n - 1) (share X),
        sum_ext (n - 1) (λ i. sum G.m (λ k. share X i k))
            (λ i. crossing (X (suc i)) (X (at tree.parent (suc i))) (at tree.weight (suc i))) each,
      )
    where
      each : (i : ℕ) → i < n - 1
          → sum G.m (λ k. share X i k) ≡ crossing (X (suc i)) (X (at tree.parent (suc i))) (at tree.weight (suc i))
      each i l =
          sum_crossing G.m (λ k. crossing (T.0 (suc i) (G.a k)) (T.0 (suc i) (G.b k)) (G.c k)) (X (suc i))
          (X (at tree.parent (suc i)))
          ∙ ap (crossing (X (suc i)) (X (at tree.parent (suc i)))) (sym (T.2.weight (suc i) (omega arith) (omega arith)))

  -- of the tree's links a subtree crosses its own edge only
  pub subtree_value : (v : ℕ) → 0 < v → v < n → cut_value (tree_net n tree) (T.0 v) ≡ at tree.weight v
  unfolding cut_value
  subtree_value v p l =
      let q : v ≡ suc (v - 1) = omega arith in
      let m = T.2.minimum v p l in
      sum_single (n - 1) (λ k. crosses (suc k)) (v - 1) (omega arith)
      (λ k kl d. crossing_same (at tree.weight (suc k)) (T.0 v (suc k)) (T.0 v (at tree.parent (suc k)))
      (T.2.down v (suc k) p l (omega arith) (omega arith)))
      ∙ ap crosses (sym q)
      ∙ crossing_apart (at tree.weight v) (T.0 v v) (T.0 v (at tree.parent v)) (m.inside ∙ sym (ap not m.outside))
    where
      crosses : ℕ → ℕ
      crosses y = crossing (T.0 v y) (T.0 v (at tree.parent y)) (at tree.weight y)
