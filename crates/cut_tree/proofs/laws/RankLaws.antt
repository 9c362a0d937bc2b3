-- Parents are a tree below node 0, and stay one as a node is placed by any side that does not hold its pivot: a rank falls along them.
use Rattle.std.specs.Prelude.{◌≡◌, refl, ◌≢◌, Bool, false, List, length, ltb}
use Rattle.std.proofs.Common.{sym, ap, ◌∙◌, true≢false, arith}
use Rattle.std.proofs.Math.Bool.{true}
use Rattle.std.specs.Prelude.{ℕ, zero, suc, ◌-◌, ◌^◌, ◌≤◌, ◌<◌}
use Rattle.std.proofs.Math.Decide.{ℕ_discrete, dec_lt}
use Rattle.std.proofs.Math.Dec.{eqb}
use Rattle.std.proofs.Common.{eq-eqb, ne_eqb, lt-ltb, le-ltb}
use Rattle.base.specs.Word.{holds}
use Rattle.base.specs.Basics.{pick, at}
use Rattle.min_cut.specs.GusfieldTree.{Goes, along, stays, far}
use Rattle.network.specs.Limits.{max_nodes}
use Rattle.cut_tree.specs.Rule.{placed}
use Rattle.cut_tree.specs.Path.{reaches}
use Rattle.cut_tree.proofs.laws.PlacedLaws.{beside_goes, beside_own, between_goes, between_own, between_pivot}
use Rattle.cut_tree.specs.declared.Tree.{Tree}

-- the parents of the nodes 0 to k: node 0 is its own, and along the others' a rank falls that is at most k
pub record Ranked (k : ℕ) (parent : List ℕ) : Type 0 where
  pub rank : ℕ → ℕ
  pub home : at parent 0 ≡ 0
  pub most : (x : ℕ) → x ≤ k → rank x ≤ k
  pub falls : (x : ℕ) → 0 < x → x ≤ k → rank (at parent x) < rank x

-- ---- so each of them reaches node 0
module _ (k : ℕ) (parent : List ℕ) (low : (x : ℕ) → at parent x ≤ k) (R : Ranked k parent) where
  reaches_within : (left x : ℕ) → x ≤ k → R.rank x ≤ left → reaches parent left x ≡ true
  unfolding reaches
  reaches_within zero x l m = go (ℕ_discrete x 0)
    where
      go : Dec (x ≡ 0) → eqb x 0 ≡ true
      go (yes e) = eq-eqb x 0 e
      go (no e) = absurd (omega (arith, R.falls x (omega arith) l))
  reaches_within (suc left) x l m = go (ℕ_discrete x 0) (reaches_within left (at parent x) (low x))
    where
      go : Dec (x ≡ 0) → (R.rank (at parent x) ≤ left → reaches parent left (at parent x) ≡ true)
          → pick (eqb x 0) true (reaches parent left (at parent x)) ≡ true
      go (yes e) ih = rw (eq-eqb x 0 e)
      go (no e) ih = rw (ne_eqb x 0 e) (ih (omega (arith, R.falls x (omega arith) l)))

  pub ranked_reaches : (left x : ℕ) → k ≤ left → x ≤ k → reaches parent left x ≡ true
  ranked_reaches left x kl l = reaches_within left x l (omega (arith, R.most x l))

-- ---- room for one more node: what stands above a goes one up, and s stands right above a
abbrev raised : (a v : ℕ) → ℕ
raised a v = pick (ltb a v) (suc v) v

module _ (a v : ℕ) where
  raised_up : a < v → raised a v ≡ suc v
  raised_up l = rw (lt-ltb a v l)

  raised_not : v ≤ a → raised a v ≡ v
  raised_not l = rw (le-ltb a v l)

  raised_le : raised a v ≤ suc v
  raised_le = go (dec_lt a v)
    where
      go : Dec (a < v) → raised a v ≤ suc v
      go (yes l) = omega (arith, raised_up l)
      go (no l) = omega (arith, raised_not (omega arith))

raised_falls : (a u v : ℕ) → u < v → raised a u < raised a v
raised_falls a u v l = go (dec_lt a v)
  where
    go : Dec (a < v) → raised a u < raised a v
    go (yes m) = omega (arith, raised_up a v m, raised_le a u)
    go (no m) = omega (arith, raised_not a v (omega arith), raised_not a u (omega arith))

module _ (s a : ℕ) (r : ℕ → ℕ) where
  room : ℕ → ℕ
  room x = pick (eqb x s) (suc a) (raised a (r x))

  room_own : room s ≡ suc a
  unfolding room
  room_own = rw (eq-eqb s s refl)

  room_other : (x : ℕ) → x ≢ s → room x ≡ raised a (r x)
  unfolding room
  room_other x n = rw (ne_eqb x s n)

  room_falls : (x y : ℕ) → x ≢ s → y ≢ s → r y < r x → room y < room x
  room_falls x y n o l = rw (room_other x n, room_other y o) (raised_falls a (r y) (r x) l)

  room_over : (x : ℕ) → x ≢ s → a < r x → room s < room x
  room_over x n l = omega (arith, room_own, room_other x n, raised_up a (r x) l)

  room_under : (y : ℕ) → y ≢ s → r y ≤ a → room y < room s
  room_under y n l = omega (arith, room_own, room_other y n, raised_not a (r y) l)

  room_most : (k x : ℕ) → a ≤ k → (x ≢ s → r x ≤ k) → room x ≤ suc k
  room_most k x l h = go (ℕ_discrete x s)
    where
      go : Dec (x ≡ s) → room x ≤ suc k
      go (yes e) = rw e (omega (arith, room_own))
      go (no n) = omega (arith, room_other x n, raised_le a (r x), h n)

-- ---- node k + 1 is placed
module _ (tree : Tree) (pl : length tree.parent ≡ max_nodes) (k : ℕ) (kl : suc k < max_nodes) (low : (x : ℕ) → at tree.parent x ≤ k)
    (R : Ranked k tree.parent) (X w : ℕ) (xl : X < 2 ^ max_nodes) (out : holds X (at tree.parent (suc k)) ≡ false) where
  abbrev p : ℕ → ℕ
  p = at tree.parent

  abbrev s : ℕ
  s = suc k

  abbrev t : ℕ
  t = p s

  abbrev r : ℕ → ℕ
  r = R.rank

  -- node 0 is not moved: it is its own parent, and the side does not hold the pivot
  home_kept : (p' : ℕ → ℕ) → Goes p p' (holds X) s t 0 → p' 0 ≡ 0
  home_kept p' (along f q g) = absurd (true≢false (sym q ∙ ap (holds X) (sym R.home ∙ f) ∙ out))
  home_kept p' (stays f q g) = g ∙ sym f ∙ R.home
  home_kept p' (far f g) = g ∙ R.home

  not_s : (x : ℕ) → p x ≢ s
  not_s x e = omega (arith, low x)

  -- another node, whether it went to s or stayed
  goes_falls : (a : ℕ) → a ≤ r t → (p' : ℕ → ℕ) (x : ℕ) → 0 < x → x ≤ k → Goes p p' (holds X) s t x → room s a r (p' x) < room s a r x
  goes_falls a l p' x xp xk (along f q g) =
      rw g (room_over s a r x (λ e. omega arith) (omega (arith, R.falls x xp xk, ap r f)))
  goes_falls a l p' x xp xk (stays f q g) =
      rw (g ∙ sym f) (room_falls s a r x (p x) (λ e. omega arith) (not_s x) (R.falls x xp xk))
  goes_falls a l p' x xp xk (far f g) =
      rw g (room_falls s a r x (p x) (λ e. omega arith) (not_s x) (R.falls x xp xk))

  beside_ranked : Ranked s (placed false tree s t X w).parent
  beside_ranked = record {
    rank = room s (r t) r;
    home = home_kept (at (placed false tree s t X w).parent) (beside_goes tree pl s t X w xl 0 (λ e. omega arith));
    most = λ x l. room_most s (r t) r k x (R.most t (low s)) (λ n. R.most x (omega arith));
    falls = λ x xp l. go x xp l (ℕ_discrete x s);
  }
    where
      p' : ℕ → ℕ
      p' = at (placed false tree s t X w).parent

      go : (x : ℕ) → 0 < x → x ≤ s → Dec (x ≡ s) → room s (r t) r (p' x) < room s (r t) r x
      go x xp l (yes e) = rw (e, beside_own tree pl s t X w xl kl) (room_under s (r t) r t (not_s s) (omega arith))
      go x xp l (no n) = goes_falls (r t) (omega arith) p' x xp (omega arith) (beside_goes tree pl s t X w xl x n)

  -- the pivot changes places with s: it is not node 0, whose parent is itself
  between_ranked : holds X (p t) ≡ true → Ranked s (placed true tree s t X w).parent
  between_ranked up = record {
    rank = room s a r;
    home = home_kept p' (between_goes tree pl s t X w xl 0 (λ e. omega arith) (λ e. omega (arith, tp)));
    most = λ x l. room_most s a r k x (omega (arith, R.most t (low s))) (λ n. R.most x (omega arith));
    falls = λ x xp l. go x xp l (ℕ_discrete x s) (ℕ_discrete x t);
  }
    where
      p' : ℕ → ℕ
      p' = at (placed true tree s t X w).parent

      a : ℕ
      a = r t - 1

      tp : 0 < t
      tp = go (ℕ_discrete t 0)
        where
          go : Dec (t ≡ 0) → 0 < t
          go (yes e) = absurd (true≢false (sym up ∙ ap (holds X) (ap p e ∙ R.home ∙ sym e) ∙ out))
          go (no n) = omega arith

      under : r (p t) < r t
      under = R.falls t tp (low s)

      go : (x : ℕ) → 0 < x → x ≤ s → Dec (x ≡ s) → Dec (x ≡ t) → room s a r (p' x) < room s a r x
      go x xp l (yes e) d =
          rw (e, between_own tree pl s t X w xl kl (λ q. not_s s (sym q))) (room_under s a r (p t) (not_s t) (omega (arith, under)))
      go x xp l (no n) (yes e) =
          rw (e, between_pivot tree pl s t X w xl (omega (arith, low s, kl))) (room_over s a r t (not_s s) (omega (arith, under)))
      go x xp l (no n) (no o) = goes_falls a (omega arith) p' x xp (omega arith) (between_goes tree pl s t X w xl x n o)

  pub placed_ranked : Ranked s (placed (holds X (p t)) tree s t X w).parent
  placed_ranked = go (holds X (p t)) refl
    where
      go : (b : Bool) → holds X (p t) ≡ b → Ranked s (placed b tree s t X w).parent
      go true e = between_ranked e
      go false e = beside_ranked
