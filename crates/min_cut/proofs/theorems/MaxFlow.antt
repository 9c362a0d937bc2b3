-- Lawful flows and residual form; weak duality; maximum flows and minimum cuts.
use Rattle.std.specs.Prelude.{◌≡◌, ◌≢◌, Bool, true, false, not, ℕ, ◌+◌, ◌≤◌, ◌<◌, eqb, ℤ, pos, ◌≤ℤ◌}
use Rattle.std.proofs.Math.Path.{refl}
use Rattle.std.proofs.Common.{sym, ap, subst, ◌∙◌, arith, eq-eqb, ne_eqb}
use Rattle.std.proofs.Math.Decide.{ℕ_discrete}
use Rattle.base.proofs.laws.SumLaws.{sum_single}
use Rattle.base.specs.Sum.{sum}
use Rattle.min_cut.specs.Cut.{Net, Side, cut_value, complement, Separates, MinCut, Within}
use Rattle.min_cut.proofs.laws.CutLaws.{cut_value_complement}
use Rattle.min_cut.specs.code.Residual.{when, ResidualFlow}
use Rattle.min_cut.proofs.code.Residual.{when_none}
use Rattle.min_cut.specs.Lawful.{outflow, Lawful, total, MaximumFlow}
use Rattle.base.proofs.laws.IntParts.{above, under, same_parts, le_parts}
use Rattle.min_cut.proofs.laws.OutflowLaws.{only, outflow_side, sent_le}
use Rattle.min_cut.proofs.laws.LawfulLaws.{InResidual, residual_within, residual_node}

-- a flow of v in residual form, whose link k carries c k - p k, is lawful and has the total v
module _ (G : Net) (s t v : ℕ) (d : s ≢ t) (p q : ℕ → ℕ) (r : ResidualFlow G s t v p q) (f : ℕ → ℤ)
    (h : InResidual G p q f) where
  -- at the side of one node the invariant is conservation there
  node : (x : ℕ) → above (outflow G f x G.m) + when (eqb t x) v ≡ under (outflow G f x G.m) + when (eqb s x) v
  node x = omega (arith, residual_node G p q f h x, r (only x))

  kept : (x : ℕ) → x ≢ s → x ≢ t → outflow G f x G.m ≡ pos 0
  kept x ns nt =
      same_parts (outflow G f x G.m) (pos 0) (omega (
        arith,
        rw (ne_eqb s x (λ e. ns (sym e)), ne_eqb t x (λ e. nt (sym e))) at (node x),
      ))

  pub residual_lawful : (n : ℕ) → Lawful G n s t f
  residual_lawful n = record { within = residual_within G p q f h; conserved = λ x l. kept x }

  pub residual_total : total G f s ≡ pos v
  unfolding total
  residual_total =
      same_parts (outflow G f s G.m) (pos v) (omega (
        arith,
        rw (eq-eqb s s refl, ne_eqb t s (λ e. d (sym e))) at (node s),
      ))

module _ (G : Net) (n s t : ℕ) (w : Within G n) (sl : s < n) (f : ℕ → ℤ) (h : Lawful G n s t f) (X : Side)
    (i : X s ≡ true) (o : X t ≡ false) where
  -- but for s the nodes of X send nothing out
  only_s : (part : ℤ → ℕ) → part (pos 0) ≡ 0
      → sum n (λ x. when (X x) (part (outflow G f x G.m))) ≡ part (total G f s)
  unfolding total
  only_s part z = sum_single n _ s sl (λ x l ns. go x l ns (ℕ_discrete x t)) ∙ rw i
    where
      go : (x : ℕ) → x < n → x ≢ s → Dec (x ≡ t) → when (X x) (part (outflow G f x G.m)) ≡ 0
      go x l ns (yes e) = rw (e, o)
      go x l ns (no nt) = rw (h.conserved x l ns nt, z) (when_none (X x))

  bounded : above (total G f s) ≤ under (total G f s) + cut_value G X
  bounded = omega (arith, only_s above refl, only_s under refl, outflow_side G f X n w, sent_le G f h.within X)

  -- the total of a lawful flow is no more than the value of a side that holds s and not t
  pub weak_duality : total G f s ≤ℤ pos (cut_value G X)
  weak_duality = le_parts (total G f s) (cut_value G X) bounded

  pub weak_duality_value : (v : ℕ) → total G f s ≡ pos v → v ≤ cut_value G X
  weak_duality_value v e = omega (arith, rw e at bounded)

module _ (G : Net) (n s t : ℕ) (w : Within G n) (sl : s < n) where
  -- so for every side that separates s and t
  pub weak_duality_separates : (f : ℕ → ℤ) → Lawful G n s t f → (X : Side) → Separates X s t
      → total G f s ≤ℤ pos (cut_value G X)
  weak_duality_separates f h X e = go (X t) refl
    where
      go : (b : Bool) → X t ≡ b → total G f s ≤ℤ pos (cut_value G X)
      go false q = weak_duality G n s t w sl f h X (e ∙ ap not q) q
      go true q =
          subst (λ c. total G f s ≤ℤ pos c) (cut_value_complement G X)
          (weak_duality G n s t w sl f h (complement X) (simp (e, q)) (simp q))

  -- a lawful flow whose total is the value of a side between s and t is a maximum flow, and the side is a minimum cut
  module _ (f : ℕ → ℤ) (h : Lawful G n s t f) (X : Side) (i : X s ≡ true) (o : X t ≡ false)
      (e : total G f s ≡ pos (cut_value G X)) where
    pub tight_maximum : MaximumFlow G n s t (cut_value G X) f
    tight_maximum = record { lawful = h; value = e; greatest = λ g hg. weak_duality G n s t w sl g hg X i o }

    pub tight_minimum : MinCut G s t X
    tight_minimum = record {
      inside = i;
      outside = o;
      least = λ Y yi yo. weak_duality_value G n s t w sl f h Y yi yo (cut_value G X) e;
    }
