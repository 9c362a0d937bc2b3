-- Laws of cut values: submodularity, posimodularity, the complement; a cut value depends on the links' ends only.
use Rattle.std.specs.Prelude.{◌≡◌, refl, Bool, true, false, not, ◌&&◌, ◌||◌, ℕ, ◌+◌, ◌≤◌, ◌<◌}
use Rattle.std.proofs.Common.{ap, ◌∙◌, arith}
use Rattle.base.proofs.laws.Bools.{bool2, bool4}
use Rattle.base.proofs.laws.SumLaws.{sum_ext, sum_le2}
use Rattle.min_cut.specs.Cut.{Net, Side, crossing, cut_value, ◌∩◌, ◌∪◌, ◌∖◌, complement, MinCut, Within}

crossing_submodular : (c : ℕ) (x y u v : Bool)
    → crossing (x && u) (y && v) c + crossing (x || u) (y || v) c ≤ crossing x y c + crossing u v c
crossing_submodular c = bool4 _ (omega arith)

crossing_posimodular : (c : ℕ) (x y u v : Bool)
    → crossing (x && not u) (y && not v) c + crossing (u && not x) (v && not y) c ≤ crossing x y c + crossing u v c
crossing_posimodular c = bool4 _ (omega arith)

crossing_complement : (c : ℕ) (x y : Bool) → crossing (not x) (not y) c ≡ crossing x y c
crossing_complement c = bool2 _ (omega arith)

module _ (G : Net) where
  pub submodular : (X Y : Side) → cut_value G (X ∩ Y) + cut_value G (X ∪ Y) ≤ cut_value G X + cut_value G Y
  unfolding cut_value
  submodular X Y = sum_le2 G.m _ _ _ _ (λ k l. crossing_submodular (G.c k) (X (G.a k)) (X (G.b k)) (Y (G.a k)) (Y (G.b k)))

  pub posimodular : (X Y : Side) → cut_value G (X ∖ Y) + cut_value G (Y ∖ X) ≤ cut_value G X + cut_value G Y
  unfolding cut_value
  posimodular X Y = sum_le2 G.m _ _ _ _ (λ k l. crossing_posimodular (G.c k) (X (G.a k)) (X (G.b k)) (Y (G.a k)) (Y (G.b k)))

  pub cut_value_complement : (X : Side) → cut_value G (complement X) ≡ cut_value G X
  unfolding cut_value
  cut_value_complement X = sum_ext G.m _ _ (λ k l. crossing_complement (G.c k) (X (G.a k)) (X (G.b k)))

  pub cut_value_ext : (n : ℕ) → Within G n → (X Y : Side) → ((i : ℕ) → i < n → X i ≡ Y i) → cut_value G X ≡ cut_value G Y
  unfolding cut_value
  cut_value_ext n w X Y h = sum_ext G.m _ _ (λ k l. cc (h (G.a k) (w k l).0, h (G.b k) (w k l).1))

-- the complement is a minimum cut the other way round
pub complement_minimum : (G : Net) (s t : ℕ) (X : Side) → MinCut G s t X → MinCut G t s (complement X)
complement_minimum G s t X x = record {
  inside = simp x.outside;
  outside = simp x.inside;
  least = λ Y i o. omega (arith, cut_value_complement G X, cut_value_complement G Y, x.least (complement Y) (simp o) (simp i));
}

-- so one of the two orders serves for both
pub separates_le : (G : Net) (s t : ℕ) (X W : Side) → MinCut G s t X → W s ≡ not (W t) → cut_value G X ≤ cut_value G W
separates_le G s t X W x e = go (W t) refl
  where
    go : (b : Bool) → W t ≡ b → cut_value G X ≤ cut_value G W
    go false q = x.least W (e ∙ ap not q) q
    go true q = omega (arith, x.least (complement W) (simp (e, q)) (simp q), cut_value_complement G W)

-- the common part of two minimum cuts is one
pub meet_minimum : (G : Net) (s t : ℕ) (X Y : Side) → MinCut G s t X → MinCut G s t Y → MinCut G s t (X ∩ Y)
meet_minimum G s t X Y x y =
    let ui : (X ∪ Y) s ≡ true = simp x.inside in
    let uo : (X ∪ Y) t ≡ false = simp (x.outside, y.outside) in
    let i : (X ∩ Y) s ≡ true = simp (x.inside, y.inside) in
    let o : (X ∩ Y) t ≡ false = simp x.outside in
    record { inside = i; outside = o; least = λ W wi wo. omega (arith, submodular G X Y, x.least (X ∪ Y) ui uo, y.least W wi wo) }
