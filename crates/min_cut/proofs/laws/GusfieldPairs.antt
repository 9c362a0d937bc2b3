-- What the invariant says once every node is placed: a subtree is a minimum cut, and a side that separates two nodes crosses a tree edge
-- between them.
use Rattle.std.specs.Prelude.{◌≡◌, refl, ◌≢◌, Bool, true, false, not, ℕ, zero, suc, ◌+◌, ◌≤◌, ◌<◌}
use Rattle.std.proofs.Common.{sym, ap, subst, ◌∙◌, true≢false, arith}
use Rattle.std.proofs.Math.Path.{fun_ext}
use Rattle.std.proofs.Math.Decide.{ℕ_discrete, dec_le}
use Rattle.min_cut.specs.Cut.{Net, Side, cut_value, MinCut}
use Rattle.min_cut.proofs.laws.CutLaws.{separates_le}
use Rattle.min_cut.specs.GusfieldTree.{Tree}

-- a side with the shape of the tree below y is the tree's
pub record Below (p : ℕ → ℕ) (y : ℕ) (S : Side) : Type 0 where
  pub holds : S y ≡ true
  pub root : S 0 ≡ false
  pub down : (x : ℕ) → 0 < x → x ≢ y → S x ≡ S (p x)

module _ (G : Net) (i : ℕ) (p w : ℕ → ℕ) (Z : ℕ → Side) (r : ℕ → ℕ) (T : Tree G i p w Z r) (y : ℕ) (l : 0 < y) (m : y < i) (S : Side)
    (b : Below p y S) where
  below_same : (q x : ℕ) → r x < q → S x ≡ Z y x
  below_same zero x h = absurd (omega arith)
  below_same (suc q) x h = go (ℕ_discrete x y) (ℕ_discrete x 0) (below_same q (p x))
    where
      go : Dec (x ≡ y) → Dec (x ≡ 0) → (r (p x) < q → S (p x) ≡ Z y (p x)) → S x ≡ Z y x
      go (yes e) d f = rw e (b.holds ∙ sym (T.minimum y l m).inside)
      go (no n) (yes e) f = rw e (b.root ∙ sym (T.root y l m))
      go (no n) (no o) f = b.down x (omega arith) n ∙ f (omega (arith, T.rank x (omega arith))) ∙ sym (T.down y x l m (omega arith) n)

  same_side : S ≡ Z y
  same_side = fun_ext (λ x. below_same (suc (r x)) x (omega arith))

  pub tree_cut : MinCut G y (p y) S × (w y ≡ cut_value G S)
  tree_cut = rw same_side (T.minimum y l m, T.weight y l m)

-- All pairs: of the tree's sides that separate u and v the one of least weight costs no more than any side that separates them.
flip : (x y : Bool) → x ≡ not y → y ≡ not x
flip x true e = rw e
flip x false e = rw e

not_own : (b : Bool) → b ≡ not b → ⊥
not_own true e = true≢false e
not_own false e = true≢false (sym e)

module _ (G : Net) (i : ℕ) (p w : ℕ → ℕ) (Z : ℕ → Side) (r : ℕ → ℕ) (T : Tree G i p w Z r) where
  -- what stands below y ranks above it
  pub deeper : (q y x : ℕ) → r x < q → 0 < y → y < i → x ≢ y → r x ≤ r y → Z y x ≡ false
  deeper zero y x h l m n d = absurd (omega arith)
  deeper (suc q) y x h l m n d = go (ℕ_discrete x 0) (λ a b. deeper q y (p x) a l m b)
    where
      go : Dec (x ≡ 0) → (r (p x) < q → p x ≢ y → r (p x) ≤ r y → Z y (p x) ≡ false) → Z y x ≡ false
      go (yes e) f = rw e (T.root y l m)
      go (no o) f =
          let k : r (p x) < r x = T.rank x (omega arith) in
          T.down y x l m (omega arith) n ∙ f (omega arith) (λ e. omega (arith, ap r e)) (omega arith)

  abbrev pub Edge : Side → ℕ → ℕ → Type 0
  Edge W u v = (x : ℕ) × (0 < x) × (x < i) × (Z x u ≡ not (Z x v)) × (W x ≡ not (W (p x)))

  turn : (W : Side) (u v : ℕ) → Edge W u v → Edge W v u
  turn W u v e = (e.0, e.1, e.2, flip (Z e.0 u) (Z e.0 v) e.3, e.4)

  -- from u's parent to u
  extend : (W : Side) (u v : ℕ) → 0 < u → u < i → Z u u ≡ not (Z u v) → Edge W (p u) v → Edge W u v
  extend W u v l m h e = go (ℕ_discrete u e.0)
    where
      go : Dec (u ≡ e.0) → Edge W u v
      go (yes q) = (u, l, m, h, subst (λ k. W k ≡ not (W (p k))) (sym q) e.4)
      go (no n) = (e.0, e.1, e.2, T.down e.0 u e.1 e.2 l n ∙ e.3, e.4)

  climb : (W : Side) (u v : ℕ) → u < i → r v ≤ r u → W u ≡ not (W v) → 0 < u → (W (p u) ≡ not (W v) → Edge W (p u) v) → Edge W u v
  climb W u v m d e l f = go (W (p u)) refl (W v) refl
    where
      apart : Z u u ≡ not (Z u v)
      apart = (T.minimum u l m).inside ∙ sym (ap not (deeper (suc (r v)) u v (omega arith) l m (λ q. not_own (W v) (ap W q ∙ e)) d))

      go : (a : Bool) → W (p u) ≡ a → (b : Bool) → W v ≡ b → Edge W u v
      go true qa false qb = extend W u v l m apart (f (qa ∙ sym (ap not qb)))
      go false qa true qb = extend W u v l m apart (f (qa ∙ sym (ap not qb)))
      go true qa true qb = (u, l, m, apart, e ∙ ap not (qb ∙ sym qa))
      go false qa false qb = (u, l, m, apart, e ∙ ap not (qb ∙ sym qa))

  root_low : (q x : ℕ) → r x < q → r 0 ≤ r x
  root_low zero x h = absurd (omega arith)
  root_low (suc q) x h = go (ℕ_discrete x 0) (root_low q (p x))
    where
      go : Dec (x ≡ 0) → (r (p x) < q → r 0 ≤ r (p x)) → r 0 ≤ r x
      go (yes e) f = rw e (omega arith)
      go (no o) f = let k : r (p x) < r x = T.rank x (omega arith) in omega (arith, f (omega arith))

  -- of two nodes the one that ranks above is not 0
  high : (u v : ℕ) → u ≢ v → r v ≤ r u → 0 < u
  high u v n d = go (ℕ_discrete u 0) (ℕ_discrete v 0)
    where
      go : Dec (u ≡ 0) → Dec (v ≡ 0) → 0 < u
      go (no a) b = omega arith
      go (yes a) (yes b) = absurd (omega arith)
      go (yes a) (no b) = absurd (omega (arith, ap r a, T.rank v (omega arith), root_low (suc (r (p v))) (p v) (omega arith)))

  pub edge : (W : Side) (q u v : ℕ) → r u + r v < q → u < i → v < i → W u ≡ not (W v) → Edge W u v
  edge W zero u v h a b e = absurd (omega arith)
  edge W (suc q) u v h a b e = go (dec_le (r v) (r u)) (λ x y. edge W q x y)
    where
      apart : u ≢ v
      apart k = not_own (W v) (ap W (sym k) ∙ e)

      go : Dec (r v ≤ r u) → ((x y : ℕ) → r x + r y < q → x < i → y < i → W x ≡ not (W y) → Edge W x y) → Edge W u v
      go (yes d) f =
          let l : 0 < u = high u v apart d in
          climb W u v a d e l (f (p u) v (omega (arith, T.rank u l)) (T.done u) b)
      go (no d) f =
          let l : 0 < v = high v u (λ k. apart (sym k)) (omega arith) in
          turn W v u (climb W v u b (omega arith) (flip (W u) (W v) e) l (f (p v) u (omega (arith, T.rank v l)) (T.done v) a))

  -- a side that separates u and v costs no less than some edge of the tree whose side separates them
  pub pairs : (W : Side) (u v : ℕ) → u < i → v < i → W u ≡ not (W v)
      → (x : ℕ) × (0 < x) × (x < i) × (Z x u ≡ not (Z x v)) × (w x ≤ cut_value G W)
  pairs W u v a b e =
      let k : Edge W u v = edge W (suc (r u + r v)) u v (omega arith) a b e in (
        k.0,
        k.1,
        k.2,
        k.3,
        omega (
          arith,
          T.weight k.0 k.1 k.2,
          separates_le G k.0 (p k.0) (Z k.0) W (T.minimum k.0 k.1 k.2) k.4,
        ),
      )
