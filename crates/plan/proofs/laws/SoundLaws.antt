-- Laws of the tests of soundness: the word of all nodes as a bound of sides, the lightest edge's test beside the tree's, the steps from
-- node 1 on.
use Rattle.std.proofs.Common.{◌≡◌, refl, Bool, true, false, ◌&&◌, List, [], ◌∷◌, ℕ, zero, suc, ◌+◌, ◌^◌, ◌≤◌, ◌<◌, ltb, sym, ap, ◌∙◌, leb}
use Rattle.std.proofs.Common.{take, length, get_or, arith, add-one, lt-ltb, le-ltb, ltb-true, le-leb, pow_pos}
use Rattle.std.proofs.Math.Bool.{and_comm}
use Rattle.std.proofs.Math.Decide.{dec_le}
use Rattle.std.proofs.lemmas.Bool.{lt-leb}
use Rattle.std.proofs.lemmas.List.{get_or-take, length-take-le, take_all}
use Rattle.std.proofs.lemmas.Slice.Zip.{get_or-zip, length-zip}
use Rattle.std.specs.List.{list_all, range_with_len, zip}
use Rattle.std.proofs.lemmas.List.Folds.{list_all_more}
use Rattle.base.specs.Basics.{at, all, every}
use Rattle.base.proofs.laws.RangeLaws.{all_in_range}
use Rattle.base.proofs.laws.TestLaws.{all_at, all_fails}
use Rattle.network.specs.Limits.{max_nodes}
use Rattle.node_set.specs.Set.{all_below}
use Rattle.cut_tree.specs.code.QueryParts.{Inside}
use Rattle.cut_tree.specs.LightestEdge.{lightest_edge, equal_edges}
use Rattle.cut_tree.specs.declared.Edge.{Edge}
use Rattle.cut_tree.specs.declared.Tree.{Tree}
use Rattle.cut_tree.specs.declared.Steps.{Steps}
use Rattle.plan.specs.Plan.{tree_fits, step_fits}
use Rattle.plan.specs.code.SoundParts.{parents_within, weights_fit, tree_with_edge, root_step_within, step_within}

-- no node of the side is n or above just if the side is at most the word of the nodes below n
module _ (n side r : ℕ) (e : r ≡ all_below n) where
  pub side_within : side ≤ r → ltb side (2 ^ n) ≡ true
  unfolding all_below
  side_within l = lt-ltb side (2 ^ n) (omega (arith, pow_pos n))

  pub side_outside : r < side → ltb side (2 ^ n) ≡ false
  unfolding all_below
  side_outside l = le-ltb side (2 ^ n) (omega (arith, pow_pos n))

pub side_test : (n side : ℕ) → ltb side (2 ^ n) ≡ leb side (all_below n)
side_test n side = go (dec_le side (all_below n))
  where
    go : Dec (side ≤ all_below n) → ltb side (2 ^ n) ≡ leb side (all_below n)
    go (yes l) = side_within n side _ refl l ∙ sym (le-leb side (all_below n) l)
    go (no d) = let l : all_below n < side = omega arith in side_outside n side _ refl l ∙ sym (lt-leb side (all_below n) l)

-- a climb along parents that are nodes stays among the nodes
pub parents_inside : (n : ℕ) (parent : List ℕ) → n ≤ max_nodes → parents_within n parent ≡ true → (i : ℕ) → i < n → Inside parent i
parents_inside n parent small e i l = record {
  bound = n;
  small = small;
  here = l;
  stays = λ j q. ltb-true (at parent j) n (all_at n (λ i. ltb (at parent i) n) e j q);
}

-- the test of each of the first n of a list, where f is that of the places
module _ {A : Type 0} (p : A → Bool) (d : A) (f : ℕ → Bool) where
  all_places : (xs : List A) (n : ℕ) → n ≤ length xs → ((i : ℕ) → i < n → p (get_or xs i d) ≡ f i)
      → list_all p (take n xs) ≡ all n f
  unfolding all
  all_places xs zero l h = refl
  all_places xs (suc n) l h =
      let before = list_all p (take n xs) in
      let more : list_all p (take (n + 1) xs) ≡ (before && p (get_or xs n d)) = list_all_more p xs n d (omega arith) in
      let same = all_places xs n (omega arith) (λ i k. h i (omega arith)) in
      (rw add-one at more) ∙ rw (h n (omega arith)) (ap (λ b. b && f n) same)

-- of the first n numbers
pub all_take : (p : ℕ → Bool) (xs : List ℕ) (n : ℕ) → n ≤ length xs → list_all p (take n xs) ≡ all n (λ i. p (at xs i))
all_take p xs n l = all_places p 0 _ xs n l (λ i k. refl)

-- of the first n numbers of two lists, in pairs
pub all_zipped : (p : ℕ × ℕ → Bool) (xs ys : List ℕ) (n : ℕ) → n ≤ length xs → n ≤ length ys
    → list_all p (zip (take n xs) (take n ys)) ≡ all n (λ i. p (at xs i, at ys i))
all_zipped p xs ys n l m =
    let k = length-take-le n xs l in
    let j = length-take-le n ys m in
    let zs = zip (take n xs) (take n ys) in
    let e = length-zip (take n xs) (take n ys) in
    ap (list_all p) (sym (take_all n zs (omega (arith, e, k, j))))
    ∙ all_places p (0, 0) _ zs n (omega (arith, e, k, j)) (λ i h.
    ap p (get_or-zip (take n xs) (take n ys) i (0, 0) (omega (arith, k)) (omega (arith, j)))
    ∙ rw (get_or-take n xs i 0 h, get_or-take n ys i 0 h) refl)

-- the lightest edge's test is answered with the fourth of the tree's
moved : (a b c d e f g x : Bool) → every (a ∷ b ∷ c ∷ (d && x) ∷ e ∷ f ∷ g ∷ []) ≡ (every (a ∷ b ∷ c ∷ d ∷ e ∷ f ∷ g ∷ []) && x)
unfolding every
moved false b c d e f g x = refl
moved true false c d e f g x = refl
moved true true false d e f g x = refl
moved true true true false e f g x = refl
moved true true true true e f g x = and_comm x (e && (f && (g && true)))

pub tree_edge : (n : ℕ) (tree : Tree) (lightest : Edge)
    → tree_with_edge n tree lightest ≡ (tree_fits n tree && equal_edges lightest (lightest_edge n tree))
unfolding tree_with_edge tree_fits weights_fit
tree_edge n tree lightest = moved _ _ _ _ _ _ _ _

-- a test of the numbers from 1 on, as an iterator makes it, after that of 0
module _ (t f : ℕ → Bool) (h : (i : ℕ) → 0 < i → t i ≡ f i) where
  others : (a m : ℕ) → 0 < a → list_all t (range_with_len a m) ≡ list_all f (range_with_len a m)
  others a zero l = refl
  others a (suc m) l = rw (h a l) (ap (λ b. f a && b) (others (a + 1) m (omega arith)))

  pub all_from_one : (n m : ℕ) → suc m ≡ n → f 0 ≡ true → list_all t (range_with_len 1 m) ≡ all n f
  all_from_one n m e first =
      let from_zero : (f 0 && list_all f (range_with_len 1 m)) ≡ all (suc m) f = all_in_range f (suc m) in
      others 1 m (omega arith) ∙ (rw first at from_zero) ∙ ap (λ k. all k f) e

-- the steps of the nodes from 1 on, after node 0's
module _ (n : ℕ) (steps : Steps) where
  abbrev pub step_test : ℕ → Bool
  step_test s = step_within n s (at steps.pivot s) (at steps.side s) (at steps.value s)

  other_step : (s : ℕ) → 0 < s → step_test s ≡ step_fits n steps s
  other_step zero l = absurd (omega arith)
  other_step (suc s) l = refl

  pub steps_from_one : (m : ℕ) → suc m ≡ n → root_step_within (at steps.pivot 0) (at steps.side 0) (at steps.value 0) ≡ true
      → list_all step_test (range_with_len 1 m) ≡ all n (step_fits n steps)
  steps_from_one m e = all_from_one step_test (step_fits n steps) other_step n m e

  pub root_step_fails : root_step_within (at steps.pivot 0) (at steps.side 0) (at steps.value 0) ≡ false → 0 < n
      → all n (step_fits n steps) ≡ false
  root_step_fails e l = all_fails n (step_fits n steps) 0 l e
