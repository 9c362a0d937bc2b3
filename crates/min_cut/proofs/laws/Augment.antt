-- One unit more, or a closed side: nodes are reached one by one from s, each with a way to send it one unit; the way's links have both ends
-- reached.
use Rattle.std.specs.Prelude.{◌≡◌, refl, ◌≢◌, Bool, true, false, not, ◌&&◌, ◌||◌, ℕ, zero, suc, ◌+◌, ◌-◌, ◌≤◌, ◌<◌}
use Rattle.std.proofs.Common.{sym, subst, ◌∙◌, true≢false, arith, eqb-true, eq-eqb, ne_eqb}
use Rattle.std.proofs.Math.Decide.{ℕ_discrete}
use Rattle.base.proofs.laws.Bools.{bool1, or_left, or_right}
use Rattle.base.proofs.laws.SumLaws.{sum_at, sum_term}
use Rattle.base.specs.Sum.{sum}
use Rattle.base.proofs.laws.Put.{put, put_same, put_other}
use Rattle.min_cut.specs.Cut.{Net, Side, ◌∪◌, Within}
use Rattle.min_cut.specs.code.Residual.{leaving, when, Closed, Pushed, At}
use Rattle.min_cut.proofs.code.Residual.{push_ahead, push_back, pushed_trans, kept}
use Rattle.min_cut.proofs.laws.OutflowLaws.{only}

-- one unit may be sent from s to x, by links both of whose ends are in R
pub record Way (G : Net) (s : ℕ) (p q : ℕ → ℕ) (R : Side) (x : ℕ) : Type 0 where
  pub p' : ℕ → ℕ
  pub q' : ℕ → ℕ
  pub pushed : Pushed G s x 1 p q p' q'
  pub sums : (k : ℕ) → p' k + q' k ≡ p k + q k
  pub rest : (k : ℕ) → R (G.a k) && R (G.b k) ≡ false → (p' k ≡ p k) × (q' k ≡ q k)

-- what a search from s to t ends with
pub data Searched (G : Net) (s t : ℕ) (p q : ℕ → ℕ) : Type 0 where
  more : (R : Side) → Way G s p q R t → Searched G s t p q
  shut : (R : Side) → R s ≡ true → R t ≡ false → Closed G p q R → Searched G s t p q

-- a link by which something may leave the side, among the first k
pub data Leaves (G : Net) (p q : ℕ → ℕ) (R : Side) (k : ℕ) : Type 0 where
  none : ((j : ℕ) → j < k → leaving (R (G.a j)) (R (G.b j)) (p j) (q j) ≡ 0) → Leaves G p q R k
  some : (j : ℕ) → j < k → 0 < leaving (R (G.a j)) (R (G.b j)) (p j) (q j) → Leaves G p q R k

fewer : (x y u v : Bool) → (x || u) && (y || v) ≡ false → x && y ≡ false
fewer true true u v e = e
fewer true false u v e = refl
fewer false y u v e = refl

module _ (G : Net) (s : ℕ) (p q : ℕ → ℕ) where
  leaves : (R : Side) (k : ℕ) → Leaves G p q R k
  leaves R zero = none (λ j l. absurd (omega arith))
  leaves R (suc k) = go (leaves R k) (ℕ_discrete (leaving (R (G.a k)) (R (G.b k)) (p k) (q k)) 0)
    where
      go : Leaves G p q R k → Dec (leaving (R (G.a k)) (R (G.b k)) (p k) (q k) ≡ 0) → Leaves G p q R (suc k)
      go (some j l h) d = some j (omega arith) h
      go (none h) (no d) = some k (omega arith) (omega arith)
      go (none h) (yes d) = none (λ j l. last j l (ℕ_discrete j k))
        where
          last : (j : ℕ) → j < suc k → Dec (j ≡ k) → leaving (R (G.a j)) (R (G.b j)) (p j) (q j) ≡ 0
          last j l (yes e) = rw e d
          last j l (no n) = h j (omega arith)

  -- a way stays one as more is reached
  wider : (R S : Side) (x : ℕ) → Way G s p q R x → Way G s p q (R ∪ S) x
  wider R S x w = record {
    p' = w.p';
    q' = w.q';
    pushed = w.pushed;
    sums = w.sums;
    rest = λ k e. w.rest k (fewer (R (G.a k)) (R (G.b k)) (S (G.a k)) (S (G.b k)) e);
  }

  -- a way to u and a push of one unit from u to x by link k
  further : (R : Side) (u x k : ℕ) (w : Way G s p q R u) (p'' q'' : ℕ → ℕ) → At k w.p' w.q' p'' q'' → Pushed G u x 1 w.p' w.q' p'' q''
      → ((i : ℕ) → p'' i + q'' i ≡ w.p' i + w.q' i)
      → (R ∪ only x) (G.a k) ≡ true → (R ∪ only x) (G.b k) ≡ true → Way G s p q (R ∪ only x) x
  further R u x k w p'' q'' at push sum ea eb = record {
    p' = p'';
    q' = q'';
    pushed = pushed_trans G s u x 1 p q w.p' w.q' p'' q'' w.pushed push;
    sums = λ i. sum i ∙ w.sums i;
    rest = rest';
  }
    where
      rest' : (i : ℕ) → (R ∪ only x) (G.a i) && (R ∪ only x) (G.b i) ≡ false → (p'' i ≡ p i) × (q'' i ≡ q i)
      rest' i e = go (ℕ_discrete i k)
        where
          before : (w.p' i ≡ p i) × (w.q' i ≡ q i)
          before = w.rest i (fewer (R (G.a i)) (R (G.b i)) (only x (G.a i)) (only x (G.b i)) e)

          go : Dec (i ≡ k) → (p'' i ≡ p i) × (q'' i ≡ q i)
          go (yes d) = absurd (true≢false (sym (rw (d, ea, eb)) ∙ e))
          go (no d) = (at.p_other i d ∙ before.0, at.q_other i d ∙ before.1)

  -- link k from a reached end to one that is not
  ahead : (R : Side) (k : ℕ) → k < G.m → R (G.a k) ≡ true → R (G.b k) ≡ false → 0 < p k → Way G s p q R (G.a k)
      → Way G s p q (R ∪ only (G.b k)) (G.b k)
  ahead R k l ea eb pos w =
      let same = w.rest k (rw (ea, eb)) in
      let p'' : ℕ → ℕ = put w.p' k (w.p' k - 1) in
      let q'' : ℕ → ℕ = put w.q' k (w.q' k + 1) in
      let at : At k w.p' w.q' p'' q'' = record {
        p_other = put_other w.p' k (w.p' k - 1);
        q_other = put_other w.q' k (w.q' k + 1);
      } in
      let less : p'' k + 1 ≡ w.p' k = omega (arith, put_same w.p' k (w.p' k - 1), same.0) in
      let gain : q'' k ≡ w.q' k + 1 = put_same w.q' k (w.q' k + 1) in
      further R (G.a k) (G.b k) k w p'' q'' at (push_ahead G w.p' w.q' p'' q'' k 1 l at less gain)
      (kept k 1 w.p' w.q' p'' q'' at less gain)
      (or_left (R (G.a k)) (only (G.b k) (G.a k)) ea) (or_right (R (G.b k)) (only (G.b k) (G.b k)) (eq-eqb (G.b k) (G.b k) refl))

  back : (R : Side) (k : ℕ) → k < G.m → R (G.a k) ≡ false → R (G.b k) ≡ true → 0 < q k → Way G s p q R (G.b k)
      → Way G s p q (R ∪ only (G.a k)) (G.a k)
  back R k l ea eb pos w =
      let same = w.rest k (rw ea) in
      let p'' : ℕ → ℕ = put w.p' k (w.p' k + 1) in
      let q'' : ℕ → ℕ = put w.q' k (w.q' k - 1) in
      let at : At k w.p' w.q' p'' q'' = record {
        p_other = put_other w.p' k (w.p' k + 1);
        q_other = put_other w.q' k (w.q' k - 1);
      } in
      let turned : At k w.q' w.p' q'' p'' = record { p_other = at.q_other; q_other = at.p_other } in
      let gain : p'' k ≡ w.p' k + 1 = put_same w.p' k (w.p' k + 1) in
      let less : q'' k + 1 ≡ w.q' k = omega (arith, put_same w.q' k (w.q' k - 1), same.1) in
      further R (G.b k) (G.a k) k w p'' q'' at (push_back G w.p' w.q' p'' q'' k 1 l at gain less) (λ i. omega (
        arith,
        kept k 1 w.q' w.p' q'' p'' turned less gain i,
      ))
      (or_right (R (G.a k)) (only (G.a k) (G.a k)) (eq-eqb (G.a k) (G.a k) refl)) (or_left (R (G.b k)) (only (G.a k) (G.b k)) eb)

  -- a node x more, and a way to it
  reached : (R : Side) (x : ℕ) → ((y : ℕ) → R y ≡ true → Way G s p q R y) → Way G s p q (R ∪ only x) x → (y : ℕ) → (R ∪ only x) y ≡ true
      → Way G s p q (R ∪ only x) y
  reached R x ways new y e = go (R y) refl
    where
      go : (b : Bool) → R y ≡ b → Way G s p q (R ∪ only x) y
      go true d = wider R (only x) y (ways y d)
      go false d = subst (Way G s p q (R ∪ only x)) (sym (eqb-true y x (sym (rw d) ∙ e))) new

-- how many of the first n nodes are not in R
abbrev left : ℕ → Side → ℕ
left n R = sum n (λ x. when (not (R x)) 1)

left_less : (n : ℕ) (R : Side) (x : ℕ) → x < n → R x ≡ false → left n (R ∪ only x) + 1 ≡ left n R
left_less n R x l e = omega (arith, sum_at n (λ y. when (not (R y)) 1) (λ y. when (not ((R ∪ only x) y)) 1) x l other, one, gone)
  where
    one : when (not (R x)) 1 ≡ 1
    one = rw e

    gone : when (not ((R ∪ only x) x)) 1 ≡ 0
    gone = rw (e, eq-eqb x x refl)

    other : (y : ℕ) → y ≢ x → when (not (R y)) 1 ≡ when (not ((R ∪ only x) y)) 1
    other y n = rw (ne_eqb y x n) (bool1 (λ b. when (not b) 1 ≡ when (not (b || false)) 1) (refl, refl) (R y))

-- a search from every set of reached nodes that leaves at most d
abbrev Grows : Net → (n s t : ℕ) → (p q : ℕ → ℕ) → ℕ → Type 0
Grows G n s t p q d = (R : Side) → left n R ≤ d → R s ≡ true → ((x : ℕ) → R x ≡ true → Way G s p q R x) → Searched G s t p q

module _ (G : Net) (n s t : ℕ) (within : Within G n) (tl : t < n) (p q : ℕ → ℕ) where
  -- by link k, out of R
  cross : (d : ℕ) → Grows G n s t p q d → (R : Side) → left n R ≤ suc d → R s ≡ true → ((x : ℕ) → R x ≡ true → Way G s p q R x)
      → (k : ℕ) → k < G.m → 0 < leaving (R (G.a k)) (R (G.b k)) (p k) (q k) → Searched G s t p q
  cross d grow R few i ways k l = go (R (G.a k)) refl (R (G.b k)) refl
    where
      next : (x : ℕ) → x < n → R x ≡ false → Way G s p q (R ∪ only x) x → Searched G s t p q
      next x xl e new = grow (R ∪ only x) (omega (arith, left_less n R x xl e)) (or_left (R s) (only x s) i) (reached G s p q R x ways new)

      go : (x : Bool) → R (G.a k) ≡ x → (y : Bool) → R (G.b k) ≡ y → 0 < leaving x y (p k) (q k) → Searched G s t p q
      go true ea false eb h = next (G.b k) (within k l).1 eb (ahead G s p q R k l ea eb h (ways (G.a k) ea))
      go false ea true eb h = next (G.a k) (within k l).0 ea (back G s p q R k l ea eb h (ways (G.b k) eb))
      go true ea true eb h = absurd (omega arith)
      go false ea false eb h = absurd (omega arith)

  grow : (d : ℕ) → Grows G n s t p q d
  grow zero R few i ways = go (R t) refl
    where
      go : (b : Bool) → R t ≡ b → Searched G s t p q
      go true e = more R (ways t e)
      go false e = absurd (omega (arith, rw e at (sum_term n (λ x. when (not (R x)) 1) t tl)))
  grow (suc d) R few i ways = go (R t) refl (leaves G s p q R G.m) (grow d)
    where
      go : (b : Bool) → R t ≡ b → Leaves G p q R G.m → Grows G n s t p q d → Searched G s t p q
      go true e h again = more R (ways t e)
      go false e (none h) again = shut R i e h
      go false e (some k l h) again = cross d again R few i ways k l h

  pub searched : Searched G s t p q
  searched = grow (left n (only s)) (only s) (omega arith) (eq-eqb s s refl) here
    where
      here : (x : ℕ) → only s x ≡ true → Way G s p q (only s) x
      here x e = rw (eqb-true x s e) (record { p' = p; q' = q; pushed = λ X. refl; sums = λ k. refl; rest = λ k f. (refl, refl) })
