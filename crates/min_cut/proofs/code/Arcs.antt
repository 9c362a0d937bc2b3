-- What holds of the definitions of specs/code/Arcs.antt.
use Rattle.std.specs.Prelude.{◌≡◌, refl, ◌≢◌, Bool, true, false, cond, ℕ, zero, suc, ◌+◌, ◌*◌, ◌^◌, ◌/◌, ◌%◌, ◌<◌}
use Rattle.std.proofs.Common.{sym, true≢false, arith, eq-eqb, ne_eqb}
use Rattle.min_cut.specs.Cut.{Net, Side, ◌⊆◌, Within}
use Rattle.min_cut.specs.code.Residual.{Closed, leaving, ResidualFlow}
use Rattle.min_cut.proofs.code.Residual.{full_minimum, full_least}
use Rattle.min_cut.specs.FirstWord.{least_min_cut}
use Rattle.base.specs.Word.{holds}
use Rattle.min_cut.proofs.theorems.LeastCut.{least_min_cut_word}
use Rattle.min_cut.specs.code.Arcs.{Shut, forward, spare, tail, tip}

-- the two arcs of a link
module _ (G : Net) (p q : ℕ → ℕ) (k : ℕ) where
  half0 : 2 * k / 2 ≡ k
  half0 = omega arith

  half1 : (2 * k + 1) / 2 ≡ k
  half1 = omega arith

  even0 : forward (2 * k) ≡ true
  even0 = eq-eqb (2 * k % 2) 0 (omega arith)

  odd1 : forward (2 * k + 1) ≡ false
  odd1 = ne_eqb ((2 * k + 1) % 2) 0 (omega arith)

  pub tail0 : tail G (2 * k) ≡ G.a k
  unfolding tail
  tail0 = rw (even0, half0)

  pub tail1 : tail G (2 * k + 1) ≡ G.b k
  unfolding tail
  tail1 = rw (odd1, half1)

  pub tip0 : tip G (2 * k) ≡ G.b k
  unfolding tip
  tip0 = rw (even0, half0)

  pub tip1 : tip G (2 * k + 1) ≡ G.a k
  unfolding tip
  tip1 = rw (odd1, half1)

  pub spare0 : spare p q (2 * k) ≡ p k
  unfolding spare
  spare0 = rw (even0, half0)

  pub spare1 : spare p q (2 * k + 1) ≡ q k
  unfolding spare
  spare1 = rw (odd1, half1)

leave_shut : (p q : ℕ) (x y : Bool) → (0 < p → x ≡ true → y ≡ true) → (0 < q → y ≡ true → x ≡ true)
    → leaving x y p q ≡ 0
leave_shut p q true true f g = refl
leave_shut zero q true false f g = refl
leave_shut (suc p) q true false f g = absurd (true≢false (sym (f (omega arith) refl)))
leave_shut p zero false true f g = refl
leave_shut p (suc q) false true f g = absurd (true≢false (sym (g (omega arith) refl)))
leave_shut p q false false f g = refl

shut_ahead : (p q : ℕ) (x y : Bool) → leaving x y p q ≡ 0 → 0 < p → x ≡ true → y ≡ true
shut_ahead p q true true h l e = refl
shut_ahead p q true false h l e = absurd (omega arith)
shut_ahead p q false y h l e = absurd (true≢false (sym e))

shut_back : (p q : ℕ) (x y : Bool) → leaving x y p q ≡ 0 → 0 < q → y ≡ true → x ≡ true
shut_back p q true y h l e = refl
shut_back p q false true h l e = absurd (omega arith)
shut_back p q false false h l e = e

pub shut_closed : (G : Net) (p q : ℕ → ℕ) (Y : Side) → Shut G p q Y → Closed G p q Y
shut_closed G p q Y h k l =
    leave_shut (p k) (q k) (Y (G.a k)) (Y (G.b k))
    (rw (spare0 G p q k, tail0 G p q k, tip0 G p q k) at (h (2 * k) (omega arith)))
    (rw (spare1 G p q k, tail1 G p q k, tip1 G p q k) at (h (2 * k + 1) (omega arith)))

pub closed_shut : (G : Net) (p q : ℕ → ℕ) (Y : Side) → Closed G p q Y → Shut G p q Y
unfolding tail tip spare
closed_shut G p q Y h e l = go (forward e)
  where
    go : (b : Bool) → 0 < cond b (p (e / 2)) (q (e / 2)) → Y (cond b (G.a (e / 2)) (G.b (e / 2))) ≡ true
        → Y (cond b (G.b (e / 2)) (G.a (e / 2))) ≡ true
    go true = shut_ahead (p (e / 2)) (q (e / 2)) (Y (G.a (e / 2))) (Y (G.b (e / 2))) (h (e / 2) (omega arith))
    go false = shut_back (p (e / 2)) (q (e / 2)) (Y (G.a (e / 2))) (Y (G.b (e / 2))) (h (e / 2) (omega arith))

-- from the flow to the first word
pub reached_least : (n : ℕ) (G : Net) (s t v : ℕ) (p q : ℕ → ℕ) (w : ℕ) → Within G n → s < n → t < n → s ≢ t
    → ResidualFlow G s t v p q → w < 2 ^ n
    → holds w s ≡ true → holds w t ≡ false → Shut G p q (holds w)
    → ((Y : Side) → Shut G p q Y → Y s ≡ true → holds w ⊆ Y) → least_min_cut n G s t ≡ w
reached_least n G s t v p q w h sl tl d f l i o c r =
    let k = shut_closed G p q (holds w) c in
    least_min_cut_word n G s t h sl tl d w l (full_minimum G s t v p q f (holds w) i o k)
    (λ y yl cy x xl. full_least G s t v p q f (holds w) i o k (λ Y c_y. r Y (closed_shut G p q Y c_y)) (holds y) cy x)
