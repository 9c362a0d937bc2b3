-- Laws of tree paths: nodes from 1 on, and an edge between any two nodes; the lightest edge.
use Rattle.std.specs.Prelude.{◌≡◌, ◌≢◌, Bool, true, false, List, ℕ, ◌<◌}
use Rattle.std.proofs.Math.Path.{refl}
use Rattle.std.proofs.Common.{sym, ap, ap₂, ◌∙◌, ⊎_elim, arith}
use Rattle.std.proofs.Math.Decide.{ℕ_discrete}
use Rattle.base.proofs.laws.Bools.{differ_one}
use Rattle.base.specs.Basics.{differ, among}
use Rattle.network.specs.Limits.{max_nodes}
use Rattle.cut_tree.specs.Path.{max_climb, Climbs, under, on_path, lightest_of, lightest_on}
use Rattle.cut_tree.specs.Answer.{LowestLightest}
use Rattle.cut_tree.proofs.laws.ClimbLaws.{climb_end, climb_starts, climb_nodes, climb_nonzero, no_loop}
use Rattle.cut_tree.proofs.laws.LightestLaws.{Best, first_best}
use Rattle.cut_tree.specs.declared.Tree.{Tree}

-- ---- between two of n nodes that climb to node 0
module _ (n : ℕ) (tree : Tree) (h : Climbs n tree.parent) (s t : ℕ) (sl : s < n) (tl : t < n) where
  abbrev ps : List ℕ
  ps = tree.parent

  abbrev edges : ℕ → Bool
  edges = on_path ps s t

  pub path_nodes : (u : ℕ) → edges u ≡ true → (0 < u) × (u < n)
  path_nodes u e =
      let node = climb_nodes n ps h.stays max_climb in
      ⊎_elim (node s u sl) (node t u tl) (differ_one (under ps u s) (under ps u t) e)

  own : (i : ℕ) → i < n → i ≢ 0 → under ps i i ≡ true
  own i l d = climb_starts ps max_climb i (h.rooted i l) d

  root : (u i : ℕ) → i ≡ 0 → under ps u i ≡ false
  root u i e = ap (among u) (climb_end ps max_climb i e) ∙ unfold among in refl

  -- a node's own edge is on its path to node 0
  pub root_edge : s ≢ 0 → t ≡ 0 → edges s ≡ true
  root_edge z e = ap₂ differ (own s sl z) (root s t e)

  -- the edge of one of them, which the other is not below
  path_edge : s ≢ t → (u : ℕ) × (edges u ≡ true)
  path_edge d = go (ℕ_discrete s 0) (ℕ_discrete t 0) (under ps s t) (under ps t s) refl refl
    where
      of_s : s ≢ 0 → under ps s t ≡ false → edges s ≡ true
      of_s z e = ap₂ differ (own s sl z) e

      of_t : t ≢ 0 → under ps t s ≡ false → edges t ≡ true
      of_t z e = ap₂ differ e (own t tl z)

      go : Dec (s ≡ 0) → Dec (t ≡ 0) → (x y : Bool) → under ps s t ≡ x → under ps t s ≡ y → (u : ℕ) × (edges u ≡ true)
      go (yes e) (yes f) x y p q = absurd (d (e ∙ sym f))
      go (yes e) (no f) x y p q = (t, of_t f (root t s e))
      go (no e) (yes f) x y p q = (s, of_s e (root s t f))
      go (no e) (no f) false y p q = (s, of_s e p)
      go (no e) (no f) true false p q = (t, of_t f q)
      go (no e) (no f) true true p q = absurd (no_loop ps max_climb s t (h.rooted s sl) (h.rooted t tl) d q p)

  -- the lightest edge, 0 where s is t
  pub path_best : Best tree.weight edges (lightest_on tree s t)
  unfolding lightest_on lightest_of
  path_best =
      let small = h.small in
      first_best tree.weight edges max_nodes (ap₂ differ (climb_nonzero ps max_climb s) (climb_nonzero ps max_climb t))
      (λ u e. omega (arith, (path_nodes u e).1))

  pub lowest_lightest : s ≢ t → LowestLightest tree.weight edges (lightest_on tree s t)
  lowest_lightest d = let k = path_edge d in path_best.here (path_best.some k.0 k.1)

  -- it is named by a node below n that is not 0
  pub lightest_node : s ≢ t → (0 < lightest_on tree s t) × (lightest_on tree s t < n)
  lightest_node d = path_nodes (lightest_on tree s t) (lowest_lightest d).lightest.is_on_path
