-- Laws of a step's code: the side's nodes moved one by one.
use Rattle.std.specs.Prelude.{◌≡◌, ◌&&◌, List, [], ◌∷◌, ℕ, suc, ◌+◌, ◌<◌, length, set, eqb}
use Rattle.std.proofs.Math.Path.{refl}
use Rattle.std.proofs.Common.{sym, ap, ◌∙◌, arith, length-set, get_or-set_same, get_or-set_other, ext_get_or}
use Rattle.std.proofs.Math.Bool.{true}
use Rattle.std.proofs.Math.Decide.{ℕ_discrete}
use Rattle.base.specs.Word.{holds}
use Rattle.node_set.specs.Set.{empty, removed}
use Rattle.node_set.proofs.theorems.Members.{holds_empty, removed_same, removed_other}
use Rattle.base.specs.Basics.{pick, at}
use Rattle.cut_tree.specs.Rule.{moved}
use Rattle.cut_tree.proofs.laws.RuleLaws.{length_moved, moved_at}
use Rattle.cut_tree.specs.code.RebuildParts.{moved_one}

-- i is moved, and is no longer to go
moved_less : (p : List ℕ) (x i s t : ℕ) → holds x i ≡ true
    → moved (removed x i) s t 0 (set p i (moved_one (at p i) s t)) ≡ moved x s t 0 p
moved_less p x i s t h =
    ext_get_or 0 (moved y s t 0 q) (moved x s t 0 p)
    (length_moved y s t 0 q ∙ length-set p i v ∙ sym (length_moved x s t 0 p)) each
  where
    v : ℕ
    v = moved_one (at p i) s t

    y : ℕ
    y = removed x i

    q : List ℕ
    q = set p i v

    each : (j : ℕ) → j < length (moved y s t 0 q) → at (moved y s t 0 q) j ≡ at (moved x s t 0 p) j
    each j l =
        let lp : j < length p = omega (arith, length_moved y s t 0 q, length-set p i v) in
        let lq : j < length q = omega (arith, length_moved y s t 0 q) in
        moved_at y s t 0 q j lq ∙ go lp (ℕ_discrete j i) ∙ sym (moved_at x s t 0 p j lp)
      where
        go : j < length p → Dec (j ≡ i)
            → pick (holds y (0 + j) && eqb (at q j) t) s (at q j) ≡ pick (holds x (0 + j) && eqb (at p j) t) s (at p j)
        go lp (yes e) =
            let o : 0 + i ≡ i = omega arith in
            let li : i < length p = rw e at lp in
            rw (e, o, removed_same x i, h) (get_or-set_same p i v 0 li)
        go lp (no n) =
            let o : 0 + j ≡ j = omega arith in
            rw (o, removed_other x i j n, get_or-set_other p i j v 0 n)

-- a turn of the loop
pub moving_next : (p : List ℕ) (x i s t y v : ℕ) (r : List ℕ) → holds x i ≡ true → v ≡ moved_one (at p i) s t
    → y ≡ removed x i
    → moved x s t 0 p ≡ r → moved y s t 0 (set p i v) ≡ r
moving_next p x i s t y v r h ev ey g = rw (ev, ey) (moved_less p x i s t h ∙ g)

moved_none : (s t i : ℕ) (ps : List ℕ) → moved empty s t i ps ≡ ps
unfolding moved
moved_none s t i [] = refl
moved_none s t i (p ∷ ps) = rw (holds_empty i) (ap (λ (qs : List ℕ). p ∷ qs) (moved_none s t (suc i) ps))

pub moving_end : (p : List ℕ) (x s t : ℕ) (r : List ℕ) → x ≡ empty → moved x s t 0 p ≡ r → p ≡ r
moving_end p x s t r e g = sym (moved_none s t 0 p) ∙ (rw e at g)
