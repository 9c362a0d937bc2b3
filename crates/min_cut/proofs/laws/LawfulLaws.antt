-- Lawful flows in residual capacities: link k carries c k - p k. What a push does to the flow and its total, and from a
-- lawful flow to residual form.
use Rattle.std.specs.Prelude.{◌≡◌, ◌≢◌, ℕ, zero, suc, ◌+◌, ◌*◌, ◌≤◌, ◌<◌, eqb, ℤ, nat_abs, ◌+ℤ◌, ◌-ℤ◌}
use Rattle.std.proofs.Math.Path.{refl}
use Rattle.std.proofs.Common.{sym, ap₂, ◌∙◌, arith, eq-eqb, ne_eqb}
use Rattle.std.proofs.Math.Bool.{true}
use Rattle.std.proofs.Math.IntN.{pos}
use Rattle.base.proofs.laws.IntParts.{above, under, sum_parts, size_parts, one_part, same_parts}
use Rattle.base.proofs.laws.SumLaws.{sum_zero, sum_two}
use Rattle.base.specs.Sum.{sum}
use Rattle.min_cut.specs.Cut.{Net, Side, cut_value, Within}
use Rattle.min_cut.specs.code.Residual.{when, residual, ResidualFlow, Pushed}
use Rattle.min_cut.proofs.code.Residual.{when_none}
use Rattle.min_cut.specs.Lawful.{at_end, outflow, Lawful, total}
use Rattle.min_cut.proofs.laws.OutflowLaws.{sent, received, only, outflow_only, outflow_side, carries, sent_residual}

-- the residual capacities of each link are together twice its capacity, and it carries its capacity less the first
pub record InResidual (G : Net) (p q : ℕ → ℕ) (f : ℕ → ℤ) : Type 0 where
  pub both : (k : ℕ) → k < G.m → p k + q k ≡ 2 * G.c k
  pub is : (k : ℕ) → k < G.m → f k ≡ pos (G.c k) -ℤ pos (p k)

-- flows that agree on the links
outflow_same : (G : Net) (f g : ℕ → ℤ) → (x k : ℕ) → ((i : ℕ) → i < k → f i ≡ g i) → outflow G f x k ≡ outflow G g x k
unfolding outflow
outflow_same G f g x zero h = refl
outflow_same G f g x (suc k) h =
    ap₂ (λ o z. o +ℤ at_end (eqb (G.a k) x) z -ℤ at_end (eqb (G.b k) x) z) (outflow_same G f g x k (λ i l. h i (omega arith)))
    (h k (omega arith))

module _ (G : Net) (f g : ℕ → ℤ) (h : (k : ℕ) → k < G.m → f k ≡ g k) where
  pub lawful_same : (n s t : ℕ) → Lawful G n s t g → Lawful G n s t f
  lawful_same n s t lawful = record {
    within = λ k l. rw (h k l) (lawful.within k l);
    conserved = λ x l ns nt. outflow_same G f g x G.m h ∙ lawful.conserved x l ns nt;
  }

  pub total_same : (s : ℕ) → total G f s ≡ total G g s
  unfolding total
  total_same s = outflow_same G f g s G.m h

module _ (G : Net) (p q : ℕ → ℕ) (f : ℕ → ℤ) (h : InResidual G p q f) where
  pub residual_within : (k : ℕ) → k < G.m → nat_abs (f k) ≤ G.c k
  residual_within k l = omega (arith, size_parts (f k), one_part (f k), carries (G.c k) (p k) (f k) (h.is k l), h.both k l)

  -- what leaves a node, less what enters it, is the value of its side less the residual capacity
  pub residual_node : (x : ℕ) → above (outflow G f x G.m) + residual G p q (only x)
      ≡ under (outflow G f x G.m) + cut_value G (only x)
  residual_node x = omega (arith, outflow_only G f x, sent_residual G p q f h.both h.is (only x))

-- d more is sent from u to w
module _ (G : Net) (u w d : ℕ) (apart : u ≢ w) (p q p' q' : ℕ → ℕ) (push : Pushed G u w d p q p' q')
    (f f' : ℕ → ℤ) (h : InResidual G p q f) (h' : InResidual G p' q' f') where
  -- d more leaves u, d more enters w
  node : (x : ℕ) → above (outflow G f' x G.m) + under (outflow G f x G.m) + when (eqb w x) d
      ≡ under (outflow G f' x G.m) + above (outflow G f x G.m) + when (eqb u x) d
  node x = omega (arith, residual_node G p q f h x, residual_node G p' q' f' h' x, push (only x))

  pub pushed_total : total G f' u ≡ total G f u +ℤ pos d
  unfolding total
  pushed_total =
      same_parts (outflow G f' u G.m) (outflow G f u G.m +ℤ pos d) (omega (
        arith,
        sum_parts (outflow G f u G.m) (pos d),
        rw (eq-eqb u u refl, ne_eqb w u (λ e. apart (sym e))) at (node u),
      ))

  elsewhere : (x : ℕ) → x ≢ u → x ≢ w → outflow G f' x G.m ≡ outflow G f x G.m
  elsewhere x nu nw =
      same_parts (outflow G f' x G.m) (outflow G f x G.m) (omega (
        arith,
        rw (ne_eqb u x (λ e. nu (sym e)), ne_eqb w x (λ e. nw (sym e))) at (node x),
      ))

  pub pushed_lawful : (n : ℕ) → Lawful G n u w f → Lawful G n u w f'
  pushed_lawful n lawful = record {
    within = residual_within G p' q' f' h';
    conserved = λ x l nu nw. elsewhere x nu nw ∙ lawful.conserved x l nu nw;
  }

-- a lawful flow from s to t of total v
module _ (G : Net) (n s t v : ℕ) (w : Within G n) (sl : s < n) (tl : t < n) (d : s ≢ t) (f : ℕ → ℤ)
    (lawful : Lawful G n s t f) (is : total G f s ≡ pos v) where
  -- of a side only s and t send anything out
  ends : (X : Side) (part : ℤ → ℕ) → part (pos 0) ≡ 0
      → sum n (λ x. when (X x) (part (outflow G f x G.m)))
      ≡ when (X s) (part (outflow G f s G.m)) + when (X t) (part (outflow G f t G.m))
  ends X part z = sum_two n (λ x. when (X x) (part (outflow G f x G.m))) s t sl tl d none
    where
      none : (x : ℕ) → x < n → x ≢ s → x ≢ t → when (X x) (part (outflow G f x G.m)) ≡ 0
      none x l ns nt = rw (lawful.conserved x l ns nt, z) (when_none (X x))

  from_s : (above (outflow G f s G.m) ≡ v) × (under (outflow G f s G.m) ≡ 0)
  unfolding total
  from_s = (rw is, rw is)

  -- all nodes together send nothing out, so what leaves s enters t
  into_t : (above (outflow G f t G.m) ≡ 0) × (under (outflow G f t G.m) ≡ v)
  unfolding sent received
  into_t = (
    omega (arith, even, one_part (outflow G f t G.m)),
    omega (arith, even, one_part (outflow G f t G.m)),
  )
    where
      all : Side
      all x = true

      even : v + above (outflow G f t G.m) ≡ under (outflow G f t G.m)
      even =
          omega (
            arith,
            from_s,
            ends all above refl,
            ends all under refl,
            outflow_side G f all n w,
            sum_zero G.m (λ k. 0) (λ k l. refl),
          )

  -- is one in residual form
  pub lawful_residual : (p q : ℕ → ℕ) → InResidual G p q f → ResidualFlow G s t v p q
  lawful_residual p q h X =
      omega (
        arith,
        sent_residual G p q f h.both h.is X,
        outflow_side G f X n w,
        rw (from_s.0, into_t.0) at (ends X above refl),
        rw (from_s.1, into_t.1) at (ends X under refl),
        when_none (X s),
        when_none (X t),
      )
