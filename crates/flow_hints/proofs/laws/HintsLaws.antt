-- Laws of the nodes that lead to a ring, as a fold gathers them: the lowest node of the ring that is left comes next.
use Rattle.std.proofs.Common.{◌≡◌, Bool, true, false, ltb, refl, sym, ap, ◌∙◌, true≢false, arith}
use Rattle.std.proofs.Common.{ltb-true, ltb-false, ℕ, zero, suc, ◌≤◌, ◌<◌, List, [], ◌∷◌, None, subst}
use Rattle.std.specs.Fn.{Called}
use Rattle.std.specs.Iterator.{Drains, YieldsThen}
use Rattle.std.specs.List.{FoldsTo}
use denote.Param.Members.{Mut}
use Rattle.std.proofs.Math.Decide.{ℕ_discrete}
use Rattle.base.specs.Word.{holds}
use Rattle.base.specs.Basics.{at}
use Rattle.network.specs.Limits.{max_nodes}
use Rattle.node_set.specs.Set.{empty, removed, union, Lowest}
use Rattle.node_set.specs.code.Members.{TakesLowest}
use Rattle.node_set.specs.declared.members.Members.{Members}
use Rattle.node_set.proofs.theorems.Members.{holds_empty, removed_same, removed_other}
use Rattle.flow_hints.specs.code.Hints.{leading_below, leading_to}
use Rattle.flow_hints.specs.declared.hints.Hints.{Hints}

-- ---- the nodes that lead to one of `nodes`
module _ (hints : Hints) (nodes : ℕ) where
  -- places without a node add nothing
  leading_skip : (i v : ℕ) → i ≤ v → ((j : ℕ) → i ≤ j → j < v → holds nodes j ≡ false)
      → leading_below hints nodes v ≡ leading_below hints nodes i
  unfolding leading_below
  leading_skip i zero l h = let e : i ≡ 0 = omega arith in rw e
  leading_skip i (suc v) l h = go (ℕ_discrete i (suc v)) (λ m. leading_skip i v m (λ j a b. h j a (omega arith)))
    where
      go : Dec (i ≡ suc v) → (i ≤ v → leading_below hints nodes v ≡ leading_below hints nodes i)
          → leading_below hints nodes (suc v) ≡ leading_below hints nodes i
      go (yes e) ih = rw e
      go (no n) ih = rw (h v (omega arith) (omega arith)) (ih (omega arith))

  leading_node : (v : ℕ) → holds nodes v ≡ true
      → leading_below hints nodes (suc v) ≡ union (leading_below hints nodes v) (at hints.into v)
  unfolding leading_below
  leading_node v h = rw h

  -- what the nodes below `seen` give is gathered, and the others are left
  record Gathered (all rest : ℕ) : Type 0 where
    pub seen : ℕ
    pub within : seen ≤ max_nodes
    pub gathered : all ≡ leading_below hints nodes seen
    pub gone : (j : ℕ) → j < seen → holds rest j ≡ false
    pub left : (j : ℕ) → seen ≤ j → holds rest j ≡ holds nodes j

  gathered_none : Gathered 0 nodes
  unfolding leading_below
  gathered_none =
      record { seen = 0; within = omega arith; gathered = refl; gone = λ j l. absurd (omega arith); left = λ j l. refl }

  gathered_more : (all rest v : ℕ) → Gathered all rest → Lowest rest v
      → Gathered (union all (at hints.into v)) (removed rest v)
  gathered_more all rest v g w =
      record { seen = suc v; within = w.small; gathered = more; gone = gone; left = left }
    where
      from : g.seen ≤ v
      from = go (ltb v g.seen) refl
        where
          go : (b : Bool) → ltb v g.seen ≡ b → g.seen ≤ v
          go true e = absurd (true≢false (sym w.here ∙ g.gone v (ltb-true v g.seen e)))
          go false e = ltb-false v g.seen e

      more : union all (at hints.into v) ≡ leading_below hints nodes (suc v)
      more =
          ap (λ (a : ℕ). union a (at hints.into v))
          (g.gathered ∙ sym (leading_skip g.seen v from (λ j a b. sym (g.left j a) ∙ w.none j b)))
          ∙ sym (leading_node v (sym (g.left v from) ∙ w.here))

      gone : (j : ℕ) → j < suc v → holds (removed rest v) j ≡ false
      gone j l = go (ℕ_discrete j v)
        where
          go : Dec (j ≡ v) → holds (removed rest v) j ≡ false
          go (yes e) = rw e (removed_same rest v)
          go (no n) = removed_other rest v j n ∙ w.none j (omega arith)

      left : (j : ℕ) → suc v ≤ j → holds (removed rest v) j ≡ holds nodes j
      left j l = removed_other rest v j (λ e. omega arith) ∙ g.left j (omega (arith, from))

  gathered_all : (all : ℕ) → Gathered all empty → all ≡ leading_to hints nodes
  gathered_all all g =
      g.gathered ∙ sym (leading_skip g.seen max_nodes g.within (λ j a b. sym (g.left j a) ∙ holds_empty j))

  -- what a fold over the nodes gives, whose closure puts in what leads to each
  module _ {F : Type 0} (g : Mut F (ℕ × (ℕ × Unit {0})) ℕ) {f : F}
      (each : (all v r : ℕ) (q : F) → Called g f (all, (v, tt)) r q → (q ≡ f) × (r ≡ union all (at hints.into v))) where
    gathers : (xs : List ℕ) (s u : Members) (p q : F × ℕ) → p.0 ≡ f → Gathered p.1 s.rest
        → YieldsThen TakesLowest s xs None u → FoldsTo {P = F × ℕ} (λ a x b. Called g a.0 (a.1, (x, tt)) b.1 b.0) p xs q
        → q.1 ≡ leading_to hints nodes
    gathers [] s u p q e o y c =
        sym (ap (λ w. w.1) c) ∙ gathered_all p.1 (rw (ap (λ m. m.rest) y.1 ∙ y.2.0) at o)
    gathers (x ∷ xs) s u p q e o y c =
        let m = each p.1 x c.0.1 c.0.0 (subst (λ w. Called g w (p.1, (x, tt)) c.0.1 c.0.0) e c.1) in
        let more : Gathered c.0.1 y.1.0.rest = rw (m.1, y.1.1.1) (gathered_more p.1 s.rest x o y.1.1.0) in
        gathers xs y.1.0 u c.0 q m.0 more (y.0, y.1.2, y.2) c.2

    pub gathers_all : (s : Members) (r : ℕ) → s.rest ≡ nodes
        → (xs : List ℕ) × (q : F) × Drains TakesLowest s xs
        × FoldsTo {P = F × ℕ} (λ a x b. Called g a.0 (a.1, (x, tt)) b.1 b.0) (f, 0) xs (q, r)
        → r ≡ leading_to hints nodes
    gathers_all s r e d = gathers d.0 s d.2.0 (f, 0) (d.1, r) refl (rw e gathered_none) d.2.1 d.3
