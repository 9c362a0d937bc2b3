-- Uncrossing: minimum cuts towards one node made to nest, grafted or lifted; the three-point inequality.
use Rattle.std.specs.Prelude.{◌≡◌, refl, Bool, true, false, not, ◌&&◌, ◌||◌, cond, ℕ, ◌≤◌, min}
use Rattle.std.proofs.Math.Path.{fun_ext}
use Rattle.std.proofs.Common.{arith}
use Rattle.base.proofs.laws.Bools.{bool1, bool2}
use Rattle.min_cut.specs.Cut.{Net, Side, cut_value, ◌∩◌, ◌∪◌, ◌∖◌, complement, Separates, MinCut}
use Rattle.min_cut.proofs.laws.CutLaws.{submodular, posimodular, cut_value_complement}

-- N is a minimum cut of j towards t without s, X one of s: with N, where X holds j, or without N, X stays a minimum cut
module _ (G : Net) (j s t : ℕ) (N X : Side) (n : MinCut G j t N) (away : N s ≡ false) (x : MinCut G s t X) where
  pub joined_minimum : X j ≡ true → MinCut G s t (X ∪ N)
  joined_minimum e =
      let i : (X ∪ N) s ≡ true = simp x.inside in
      let o : (X ∪ N) t ≡ false = simp (x.outside, n.outside) in
      let ji : (X ∩ N) j ≡ true = simp (e, n.inside) in
      let jo : (X ∩ N) t ≡ false = simp x.outside in
      let le : cut_value G (X ∪ N) ≤ cut_value G X = omega (arith, submodular G X N, n.least (X ∩ N) ji jo) in
      record { inside = i; outside = o; least = λ Y yi yo. omega (arith, le, x.least Y yi yo) }

  pub difference_minimum : X j ≡ false → MinCut G s t (X ∖ N)
  difference_minimum e =
      let i : (X ∖ N) s ≡ true = simp (x.inside, away) in
      let o : (X ∖ N) t ≡ false = simp x.outside in
      let ji : (N ∖ X) j ≡ true = simp (e, n.inside) in
      let jo : (N ∖ X) t ≡ false = simp n.outside in
      let le : cut_value G (X ∖ N) ≤ cut_value G X = omega (arith, posimodular G X N, n.least (N ∖ X) ji jo) in
      record { inside = i; outside = o; least = λ Y yi yo. omega (arith, le, x.least Y yi yo) }

-- no side that separates i and j costs less than v
abbrev pub Floor : Net → ℕ → ℕ → ℕ → Type 0
Floor G i j v = (X : Side) → Separates X i j → v ≤ cut_value G X

third : {A : Type 0} (x y z : Bool) → x ≡ not y → (x ≡ not z → A) → (z ≡ not y → A) → A
third true y true e f g = g e
third true y false e f g = f refl
third false y true e f g = f refl
third false y false e f g = g e

-- of three nodes: a side between the first and the last separates one of the pairs beside
pub three : (G : Net) (j t s v w : ℕ) → Floor G j t v → Floor G t s w → Floor G j s (min v w)
three G j t s v w hv hw X e = third (X j) (X s) (X t) e (λ p. omega (arith, hv X p)) (λ p. omega (arith, hw X p))

-- X made to hold all of N or none, as it holds j
unfoldable pub uncrossed : Side → Side → ℕ → Side
uncrossed X N j x = cond (N x) (X j) (X x)

uncrossed_true : (X N : Side) (j : ℕ) → X j ≡ true → uncrossed X N j ≡ X ∪ N
unfolding uncrossed
uncrossed_true X N j e = fun_ext (λ x. rw e (bool2 (λ u v. cond u true v ≡ v || u) ((refl, refl), (refl, refl)) (N x) (X x)))

uncrossed_false : (X N : Side) (j : ℕ) → X j ≡ false → uncrossed X N j ≡ X ∖ N
unfolding uncrossed
uncrossed_false X N j e = fun_ext (λ x. rw e (bool2 (λ u v. cond u false v ≡ v && not u) ((refl, refl), (refl, refl)) (N x) (X x)))

pub uncrossed_own : (X N : Side) (j : ℕ) → uncrossed X N j j ≡ X j
unfolding uncrossed
uncrossed_own X N j = bool1 (λ u. cond u (X j) (X j) ≡ X j) (refl, refl) (N j)

pub uncrossed_in : (X N : Side) (j x : ℕ) → N x ≡ true → uncrossed X N j x ≡ X j
unfolding uncrossed
uncrossed_in X N j x e = rw e

pub uncrossed_out : (X N : Side) (j x : ℕ) → N x ≡ false → uncrossed X N j x ≡ X x
unfolding uncrossed
uncrossed_out X N j x e = rw e

pub uncrossed_minimum : (G : Net) (j s t : ℕ) (N X : Side) → MinCut G j t N → N s ≡ false → MinCut G s t X → MinCut G s t (uncrossed X N j)
uncrossed_minimum G j s t N X n a x = go (X j) refl
  where
    go : (b : Bool) → X j ≡ b → MinCut G s t (uncrossed X N j)
    go true e = rw (uncrossed_true X N j e) (joined_minimum G j s t N X n a x e)
    go false e = rw (uncrossed_false X N j e) (difference_minimum G j s t N X n a x e)

-- a neighbour y of t that X takes along with s becomes a neighbour of s
pub graft : (G : Net) (y s t : ℕ) (N X : Side) → MinCut G y t N → N s ≡ false → MinCut G s t X → X y ≡ true → MinCut G y s N
graft G y s t N X n a x e = record { inside = n.inside; outside = a; least = λ W i o. go W i o (W t) refl }
  where
    go : (W : Side) → W y ≡ true → W s ≡ false → (b : Bool) → W t ≡ b → cut_value G N ≤ cut_value G W
    go W i o false q = n.least W i q
    go W i o true q = omega (arith, n.least X e x.outside, x.least (complement W) (simp o) (simp q), cut_value_complement G W)

-- and where X takes t's parent u, t's side becomes s's
pub lift : (G : Net) (u s t : ℕ) (N X : Side) → MinCut G t u N → N s ≡ true → MinCut G s t X → X u ≡ true → MinCut G s u N
lift G u s t N X n a x e = record { inside = a; outside = n.outside; least = λ W i o. go W i o (W t) refl }
  where
    go : (W : Side) → W s ≡ true → W u ≡ false → (b : Bool) → W t ≡ b → cut_value G N ≤ cut_value G W
    go W i o true q = n.least W q o
    go W i o false q = omega (arith, n.least (complement X) (simp x.outside) (simp e), cut_value_complement G X, x.least W i q)
