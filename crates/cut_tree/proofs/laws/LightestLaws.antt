-- The lightest of a set of edges, the lowest number among equals: there is one, the definition finds it, and so does a pass that takes the
-- edges one by one, in any order.
use Rattle.std.specs.Prelude.{ℕ, ◌≤◌, ◌<◌, ◌≡◌, ◌⊎◌, Bool, ◌||◌, List, [], ◌∷◌, Option, None, Some}
use Rattle.std.proofs.Math.Path.{fun_ext}
use Rattle.std.proofs.Common.{true, false, refl, sym, subst, ap, ◌∙◌, inl, inr, ⊎_elim, arith, true≢false}
use Rattle.std.proofs.Common.{eqb-true, eq-eqb, ltb-true, ltb-false}
use Rattle.std.proofs.Math.Bool.{or-true, or-false}
use Rattle.std.proofs.Math.Decide.{ℕ_discrete}
use Rattle.std.specs.Prelude.{ltb, eqb}
use Rattle.min_cut.specs.FirstWord.{first}
use Rattle.min_cut.proofs.laws.FirstLaws.{First, first_is, first_some}
use Rattle.base.proofs.laws.Bools.{or_pick}
use Rattle.base.specs.Basics.{pick, at, among}
use Rattle.cut_tree.specs.Answer.{LowestLightest}
use Rattle.cut_tree.proofs.theorems.SameEdge.{one_lightest}
use Rattle.cut_tree.specs.code.QueryParts.{lighter, lightest_from}

-- b is the lightest of a set of edges, the lowest number among equals; 0 where there is none
pub record Best (weight : List ℕ) (edges : ℕ → Bool) (b : ℕ) : Type 0 where
  pub here : (b ≡ 0 → ⊥) → LowestLightest weight edges b
  pub some : (u : ℕ) → edges u ≡ true → b ≡ 0 → ⊥

module _ (weight : List ℕ) where
  pub one_best : (E : ℕ → Bool) (b c : ℕ) → Best weight E b → Best weight E c → b ≡ c
  one_best E b c x y = go (ℕ_discrete b 0) (ℕ_discrete c 0)
    where
      go : Dec (b ≡ 0) → Dec (c ≡ 0) → b ≡ c
      go (yes p) (yes q) = p ∙ sym q
      go (yes p) (no q) = absurd (x.some c (y.here q).lightest.is_on_path p)
      go (no p) (yes q) = absurd (y.some b (x.here p).lightest.is_on_path q)
      go (no p) (no q) = one_lightest weight E b c (x.here p) (y.here q)

  -- what the definition finds
  pub first_best : (E : ℕ → Bool) (k : ℕ) → E 0 ≡ false → ((u : ℕ) → E u ≡ true → u < k) → Best weight E (first E (at weight) k)
  first_best E k z below = record {
    here = λ n. record {
      lightest = record { is_on_path = first_some E (at weight) k n; least = λ u e. (is u e).least };
      lowest = λ u e q. (is u e).early (omega (arith, q));
    };
    some = λ u e q. true≢false (sym (is u e).fine ∙ ap E q ∙ z);
  }
    where
      is : (u : ℕ) → E u ≡ true → First E (at weight) u (first E (at weight) k)
      is u e = first_is E (at weight) k u (below u e) e

-- ---- a pass that takes the edges one by one: what it has found of a set of edges
abbrev pub Met : List ℕ → (ℕ → Bool) → Option ℕ → Type 0
Met weight edges None = (u : ℕ) → edges u ≡ true → ⊥
Met weight edges (Some b) = LowestLightest weight edges b

module _ (weight : List ℕ) where
  pub none_met : Met weight (λ u. false) None
  none_met u e = true≢false (sym e)

  -- one more edge
  module _ (E : ℕ → Bool) (x : ℕ) where
    abbrev more : ℕ → Bool
    more u = E u || eqb u x

    cases : (u : ℕ) → more u ≡ true → (E u ≡ true) ⊎ (u ≡ x)
    cases u e = go (E u) refl e
      where
        go : (y : Bool) → E u ≡ y → (y || eqb u x) ≡ true → (E u ≡ true) ⊎ (u ≡ x)
        go true p q = inl p
        go false p q = inr (eqb-true u x q)

    -- r is one of them, and stands before all of E and x
    stands : (r : ℕ) → more r ≡ true → (at weight r ≤ at weight x) → (at weight x ≡ at weight r → r ≤ x)
        → ((u : ℕ) → E u ≡ true → (at weight r ≤ at weight u) × (at weight u ≡ at weight r → r ≤ u)) → LowestLightest weight more r
    stands r m l e f = record {
      lightest = record { is_on_path = m; least = λ u q. ⊎_elim (λ p. (f u p).0) (λ p. rw p l) (cases u q) };
      lowest = λ u q. ⊎_elim (λ p. (f u p).1) (λ p. rw p e) (cases u q);
    }

    new : more x ≡ true
    new = rw (eq-eqb x x refl) (or-true (E x))

    met_more : (best : Option ℕ) → Met weight E best → LowestLightest weight more (lighter weight best x)
    unfolding lighter
    met_more None h = stands x new (omega arith) (λ l. omega arith) (λ u m. absurd (h u m))
    met_more (Some b) h = go (ltb (at weight x) (at weight b)) refl (ltb (at weight b) (at weight x)) refl (ltb x b) refl
      where
        -- b stands before all of E
        old : more b ≡ true
        old = rw h.lightest.is_on_path

        stays : (u : ℕ) → E u ≡ true → (at weight b ≤ at weight u) × (at weight u ≡ at weight b → b ≤ u)
        stays u m = (h.lightest.least u m, h.lowest u m)

        go : (q : Bool) → ltb (at weight x) (at weight b) ≡ q → (r : Bool) → ltb (at weight b) (at weight x) ≡ r
            → (v : Bool) → ltb x b ≡ v → LowestLightest weight more (pick q x (pick r b (pick v x b)))
        go true e r f v g =
            let less = ltb-true (at weight x) (at weight b) e in
            stands x new (omega arith) (λ l. omega arith) (λ u m. (omega (arith, (stays u m).0), λ l. omega (arith, l, (stays u m).0)))
        go false e true f v g =
            let less = ltb-true (at weight b) (at weight x) f in
            stands b old (omega arith) (λ l. omega (arith, l)) stays
        go false e false f true g =
            let up = ltb-false (at weight x) (at weight b) e in
            let down = ltb-false (at weight b) (at weight x) f in
            let low = ltb-true x b g in
            stands x new (omega arith) (λ l. omega arith)
            (λ u m. (omega (arith, (stays u m).0), λ l. omega (arith, (stays u m).1 (omega (arith, l)))))
        go false e false f false g =
            stands b old (ltb-false (at weight x) (at weight b) e) (λ l. ltb-false x b g) stays

  -- and a list of them
  pub met_from : (E F : ℕ → Bool) (best : Option ℕ) (xs : List ℕ) → Met weight E best
      → ((u : ℕ) → (E u || among u xs) ≡ F u) → Met weight F (lightest_from weight best xs)
  unfolding lightest_from among
  met_from E F best [] h e = subst (λ (X : ℕ → Bool). Met weight X best) (fun_ext (λ u. sym (or-false (E u)) ∙ e u)) h
  met_from E F best (x ∷ xs) h e =
      met_from (λ u. E u || eqb u x) F (Some (lighter weight best x)) xs (met_more E x best h)
      (λ u. or_pick (E u) (eqb u x) (among u xs) ∙ e u)

  -- all of them met, the lightest is found
  pub met_lightest : (edges : ℕ → Bool) (best : Option ℕ) (v : ℕ) → Met weight edges best → LowestLightest weight edges v → best ≡ Some v
  met_lightest edges None v h l = absurd (h v l.lightest.is_on_path)
  met_lightest edges (Some b) v h l = ap Some (one_lightest weight edges b v h l)
