-- Climbs along the parents of a cut tree: every node reaches node 0 by at most n - 1 parents, and a climb goes through v exactly for the
-- nodes of v's subtree.
use Rattle.std.specs.Prelude.{◌≡◌, refl, ◌≢◌, Bool, true, ◌&&◌, eqb, ltb}
use Rattle.std.proofs.Math.Path.{sym, subst}
use Rattle.std.proofs.Common.{ap, ◌∙◌, arith}
use Rattle.std.proofs.Math.Bool.{false}
use Rattle.std.specs.Prelude.{List, [], ◌∷◌}
use Rattle.std.specs.Prelude.{ℕ, zero, suc, ◌-◌, ◌≤◌, ◌<◌}
use Rattle.std.proofs.Math.Decide.{ℕ_discrete, dec_lt}
use Rattle.std.proofs.Common.{eq-eqb, ne_eqb, lt-ltb, le-ltb}
use Rattle.base.proofs.laws.SumLaws.{sum_at, sum_bits}
use Rattle.base.specs.Sum.{sum}
use Rattle.min_cut.specs.Cut.{Net, Side}
use Rattle.base.specs.Word.{bit}
use Rattle.min_cut.specs.GusfieldTree.{Tree as TreeOf}
use Rattle.base.specs.Basics.{pick, at, among}
use Rattle.cut_tree.specs.Path.{reaches, climb}
use Rattle.cut_tree.proofs.laws.RankLaws.{Ranked, ranked_reaches}

module _ (G : Net) (n : ℕ) (parent : List ℕ) (w : ℕ → ℕ) (Z : ℕ → Side) (r : ℕ → ℕ) (T : TreeOf G n (at parent) w Z r) where
  inner : ℕ → Bool
  inner y = ltb 0 y && ltb y n

  -- in how many subtrees x stands, its own among them
  depth : ℕ → ℕ
  depth x = sum n (λ y. bit (inner y && Z y x))

  depth_le : (x : ℕ) → depth x ≤ n - 1
  unfolding depth inner
  depth_le x =
      let e : suc (n - 1) ≡ n = omega (arith, T.one) in
      subst (λ m. sum m (λ y. bit (inner y && Z y x)) ≤ n - 1) e (sum_bits (n - 1) (λ y. inner y && Z y x) refl)

  -- one less at the parent: only x's own subtree is left
  depth_up : (x : ℕ) → 0 < x → x < n → depth x ≡ suc (depth (at parent x))
  unfolding depth inner
  depth_up x l m =
      let own : bit (inner x && Z x x) ≡ 1 = simp (lt-ltb 0 x l, lt-ltb x n m, (T.minimum x l m).inside) in
      let left : bit (inner x && Z x (at parent x)) ≡ 0 = simp (lt-ltb 0 x l, lt-ltb x n m, (T.minimum x l m).outside) in
      omega (arith, own, left, sum_at n (λ y. bit (inner y && Z y x)) (λ y. bit (inner y && Z y (at parent x))) x m same)
    where
      same : (y : ℕ) → y ≢ x → bit (inner y && Z y x) ≡ bit (inner y && Z y (at parent x))
      same y d = go (ℕ_discrete y 0) (dec_lt y n)
        where
          go : Dec (y ≡ 0) → Dec (y < n) → bit (inner y && Z y x) ≡ bit (inner y && Z y (at parent x))
          go (yes e) b = rw e
          go (no e) (yes b) = rw (T.down y x (omega arith) b l (λ q. d (sym q)))
          go (no e) (no b) = simp (lt-ltb 0 y (omega arith), le-ltb y n (omega arith))

  ranked : Ranked (n - 1) parent
  ranked = record {
    rank = depth;
    home = T.home;
    most = λ x l. depth_le x;
    falls = λ x p l. omega (arith, T.one, depth_up x p (omega (arith, T.one)));
  }

  pub climb_ends : (left x : ℕ) → n - 1 ≤ left → x < n → reaches parent left x ≡ true
  climb_ends left x l m = ranked_reaches (n - 1) parent (λ y. omega (arith, T.done y)) ranked left x l (omega arith)

  through_deep : (v : ℕ) → 0 < v → v < n → (left x : ℕ) → x < n → depth x ≤ left → among v (climb parent left x) ≡ Z v x
  unfolding climb among
  through_deep v l m zero x xm d = go (ℕ_discrete x 0)
    where
      go : Dec (x ≡ 0) → false ≡ Z v x
      go (yes e) = rw e (sym (T.root v l m))
      go (no e) = absurd (omega (arith, depth_up x (omega arith) xm))
  through_deep v l m (suc left) x xm d = go (ℕ_discrete x 0) (ℕ_discrete v x) (through_deep v l m left (at parent x) (T.done x))
    where
      go : Dec (x ≡ 0) → Dec (v ≡ x) → (depth (at parent x) ≤ left → among v (climb parent left (at parent x)) ≡ Z v (at parent x))
          → among v (pick (eqb x 0) [] (x ∷ climb parent left (at parent x))) ≡ Z v x
      go (yes e) b f = rw (eq-eqb x 0 e) (sym (ap (Z v) e ∙ T.root v l m))
      go (no e) (yes b) f = rw (ne_eqb x 0 e, eq-eqb v x b) (sym (ap (Z v) (sym b) ∙ (T.minimum v l m).inside))
      go (no e) (no b) f =
          rw (ne_eqb x 0 e, ne_eqb v x b)
          (f (omega (arith, depth_up x (omega arith) xm)) ∙ sym (T.down v x l m (omega arith) (λ q. b (sym q))))

  pub climb_through : (left v x : ℕ) → n - 1 ≤ left → 0 < v → v < n → x < n → among v (climb parent left x) ≡ Z v x
  climb_through left v x l vp vl xl = through_deep v vp vl left x xl (omega (arith, depth_le x))
