-- What holds of the definitions of specs/StrongDuality.antt.
use Rattle.std.specs.Prelude.{◌≡◌, refl, ◌≢◌, ℕ, zero, suc, ◌+◌, ◌*◌, ◌<◌, ℤ, pos, ◌-ℤ◌, ◌≤ℤ◌}
use Rattle.std.proofs.Common.{sym, ap, subst, ◌∙◌, arith, leb→le, eq-eqb, ne_eqb}
use Rattle.min_cut.specs.Cut.{Net, Side, cut_value, MinCut, Within}
use Rattle.min_cut.specs.code.Residual.{ResidualFlow}
use Rattle.min_cut.proofs.code.Residual.{start, more, weak, full}
use Rattle.min_cut.specs.Lawful.{Lawful, total, MaximumFlow}
use Rattle.min_cut.proofs.laws.OutflowLaws.{only}
use Rattle.min_cut.proofs.laws.LawfulLaws.{InResidual}
use Rattle.min_cut.proofs.theorems.MaxFlow.{residual_lawful, residual_total, weak_duality_value, tight_maximum}
use Rattle.min_cut.proofs.laws.Augment as Augment
use Rattle.min_cut.proofs.laws.Augment.{Searched, searched}
use Rattle.min_cut.specs.StrongDuality.{Saturated}

module _ (G : Net) (n s t : ℕ) (w : Within G n) (tl : t < n) (d : s ≢ t) where
  -- unit after unit: the total stays below the value of the side of s
  saturate : (spare v : ℕ) (p q : ℕ → ℕ) → cut_value G (only s) < v + spare → ResidualFlow G s t v p q
      → ((k : ℕ) → p k + q k ≡ 2 * G.c k) → Saturated G s t
  saturate zero v p q l r b =
      absurd (omega (arith, weak G s t v p q r (only s) (eq-eqb s s refl) (ne_eqb t s (λ e. d (sym e)))))
  saturate (suc spare) v p q l r b = go (searched G n s t w tl p q) (saturate spare)
    where
      go : Searched G s t p q
          → ((v : ℕ) (p q : ℕ → ℕ) → cut_value G (only s) < v + spare → ResidualFlow G s t v p q
          → ((k : ℕ) → p k + q k ≡ 2 * G.c k) → Saturated G s t) → Saturated G s t
      go (Augment.more R h) again =
          again (v + 1) h.p' h.q' (omega arith) (more G s t v 1 p q h.p' h.q' r h.pushed)
          (λ k. h.sums k ∙ b k)
      go (Augment.shut R i o c) again = record {
        v = v;
        p = p;
        q = q;
        flow = r;
        both = b;
        R = R;
        inside = i;
        outside = o;
        closed = c;
      }

  saturated : Saturated G s t
  saturated = saturate (cut_value G (only s) + 1) 0 G.c G.c (omega arith) (start G s t) (λ k. omega arith)

module _ (G : Net) (n s t : ℕ) (w : Within G n) (sl : s < n) (tl : t < n) (d : s ≢ t) where
  -- there is a maximum flow, and its total is the value of every minimum cut
  pub max_flow_min_cut : (X : Side) → MinCut G s t X → (f : ℕ → ℤ) × MaximumFlow G n s t (cut_value G X) f
  max_flow_min_cut X x =
      let z : Saturated G s t = saturated G n s t w tl d in
      let f : ℕ → ℤ = λ k. pos (G.c k) -ℤ pos (z.p k) in
      let held : InResidual G z.p z.q f = record { both = λ k l. z.both k; is = λ k l. refl } in
      let h : Lawful G n s t f =
      residual_lawful G s t z.v d z.p z.q z.flow f held n in
      let e : total G f s ≡ pos z.v =
      residual_total G s t z.v d z.p z.q z.flow f held in
      let same : z.v ≡ cut_value G X = omega (
        arith,
        full G s t z.v z.p z.q z.flow z.R z.inside z.outside z.closed,
        x.least z.R z.inside z.outside,
        weak G s t z.v z.p z.q z.flow X x.inside x.outside,
      ) in
      (f, tight_maximum G n s t w sl f h X x.inside x.outside (e ∙ ap pos same))

  -- so every maximum flow has it
  pub maximum_value : (v : ℕ) (f : ℕ → ℤ) → MaximumFlow G n s t v f → (X : Side) → MinCut G s t X → v ≡ cut_value G X
  maximum_value v f m X x =
      let g = max_flow_min_cut X x in
      let ge : pos (cut_value G X) ≤ℤ pos v =
      subst (λ z. z ≤ℤ pos v) g.1.value (m.greatest g.0 g.1.lawful) in
      omega (
        arith,
        weak_duality_value G n s t w sl f m.lawful X x.inside x.outside v m.value,
        leb→le (cut_value G X) v ge.le,
      )
