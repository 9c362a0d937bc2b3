-- Laws of the rule by any cuts: the arrays' lengths, where parents point, what each step records, the count, equal cuts.
use Rattle.std.specs.Prelude.{◌≡◌, refl, ◌≢◌, Bool, true, false, ◌&&◌, List, [], ◌∷◌, ℕ, zero, suc, ◌+◌, ◌≤◌, ◌<◌}
use Rattle.std.specs.Prelude.{length, set, replicate, eqb}
use Rattle.std.proofs.Common.{sym, ap, ◌∙◌, arith, length-set}
use Rattle.std.proofs.Math.Decide.{ℕ_discrete}
use Rattle.std.proofs.lemmas.List.{length-replicate}
use Rattle.std.proofs.Math.Seq.{get_or-set_same, get_or-set_other}
use Rattle.base.proofs.laws.SumLaws.{sum_ext}
use Rattle.base.specs.Sum.{sum}
use Rattle.base.specs.Word.{holds}
use Rattle.base.specs.Basics.{pick, at}
use Rattle.base.proofs.laws.BlankLaws.{zeros_at}
use Rattle.network.specs.Limits.{max_nodes}
use Rattle.cut_tree.specs.Rule.{moved, placed, stepped, rule_by}
use Rattle.cut_tree.specs.declared.Tree.{Tree}
use Rattle.cut_tree.specs.declared.Steps.{Steps}
use Rattle.cut_tree.specs.declared.Built.{Built}
use Rattle.cut_tree.specs.Rule.{StepCut}
use Rattle.base.proofs.laws.ListLaws.{pick_le, set_le}

-- ---- the nodes that are moved
pub length_moved : (X s t i : ℕ) (ps : List ℕ) → length (moved X s t i ps) ≡ length ps
unfolding moved
length_moved X s t i [] = refl
length_moved X s t i (p ∷ ps) = ap suc (length_moved X s t (suc i) ps)

pub moved_at : (X s t i : ℕ) (ps : List ℕ) (x : ℕ) → x < length ps
    → at (moved X s t i ps) x ≡ pick (holds X (i + x) && eqb (at ps x) t) s (at ps x)
unfolding moved
moved_at X s t i [] x l = absurd (omega arith)
moved_at X s t i (p ∷ ps) zero l = let e : i ≡ i + 0 = omega arith in ap (λ v. pick (holds X v && eqb p t) s p) e
moved_at X s t i (p ∷ ps) (suc x) l =
    let e : suc i + x ≡ i + suc x = omega arith in
    moved_at X s t (suc i) ps x (omega arith) ∙ ap (λ v. pick (holds X v && eqb (at ps x) t) s (at ps x)) e

-- ---- the arrays' lengths
pub record Long (b : Built) : Type 0 where
  pub parent : length b.tree.parent ≡ max_nodes
  pub weight : length b.tree.weight ≡ max_nodes
  pub pivot : length b.steps.pivot ≡ max_nodes
  pub side : length b.steps.side ≡ max_nodes
  pub value : length b.steps.value ≡ max_nodes

placed_parents_lem : (b : Bool) (tree : Tree) (s t X w : ℕ) → length (placed b tree s t X w).parent ≡ length tree.parent
placed_parents_lem false tree s t X w = simp (length-set, length_moved)
placed_parents_lem true tree s t X w = simp (length-set, length_moved)

placed_weights_lem : (b : Bool) (tree : Tree) (s t X w : ℕ) → length (placed b tree s t X w).weight ≡ length tree.weight
placed_weights_lem false tree s t X w = simp length-set
placed_weights_lem true tree s t X w = simp length-set

pub stepped_long : (b : Built) (s t : ℕ) (x : StepCut) → Long b → Long (stepped b s t x)
unfolding stepped
stepped_long b s t x h =
    record {
      parent = placed_parents_lem (holds x.side (at b.tree.parent t)) b.tree s t x.side x.value ∙ h.parent;
      weight = placed_weights_lem (holds x.side (at b.tree.parent t)) b.tree s t x.side x.value ∙ h.weight;
      pivot = length-set b.steps.pivot s t ∙ h.pivot;
      side = length-set b.steps.side s x.side ∙ h.side;
      value = length-set b.steps.value s x.value ∙ h.value;
    }

pub rule_long : (cut : ℕ → ℕ → StepCut) (k : ℕ) → Long (rule_by cut k)
unfolding rule_by
rule_long cut zero =
    let n : length (replicate {A = ℕ} max_nodes 0) ≡ max_nodes = length-replicate {A = ℕ} max_nodes 0 in
    record { parent = n; weight = n; pivot = n; side = n; value = n }
rule_long cut (suc k) = stepped_long (rule_by cut k) _ _ _ (rule_long cut k)

moved_le : (m X s t i : ℕ) (ps : List ℕ) → s ≤ m → ((x : ℕ) → at ps x ≤ m) → (x : ℕ) → at (moved X s t i ps) x ≤ m
unfolding moved
moved_le m X s t i [] l h x = h x
moved_le m X s t i (p ∷ ps) l h zero = pick_le m (holds X i && eqb p t) s p l (h 0)
moved_le m X s t i (p ∷ ps) l h (suc x) = moved_le m X s t (suc i) ps l (λ x. h (suc x)) x

placed_le : (m : ℕ) (b : Bool) (tree : Tree) (s t X w : ℕ) → s ≤ m → t ≤ m → ((x : ℕ) → at tree.parent x ≤ m) → (x : ℕ)
    → at (placed b tree s t X w).parent x ≤ m
placed_le m false tree s t X w sl tl h = set_le m (moved X s t 0 tree.parent) s t tl (moved_le m X s t 0 tree.parent sl h)
placed_le m true tree s t X w sl tl h =
    let q = at tree.parent t in
    set_le m (set (moved X s t 0 tree.parent) s q) t s sl
    (set_le m (moved X s t 0 tree.parent) s q (h t) (moved_le m X s t 0 tree.parent sl h))

pub stepped_le : (m : ℕ) (b : Built) (s t : ℕ) (x : StepCut) → s ≤ m → t ≤ m → ((i : ℕ) → at b.tree.parent i ≤ m) → (i : ℕ)
    → at (stepped b s t x).tree.parent i ≤ m
unfolding stepped
stepped_le m b s t x sl tl h = placed_le m (holds x.side (at b.tree.parent t)) b.tree s t x.side x.value sl tl h

pub parents_le : (cut : ℕ → ℕ → StepCut) (k x : ℕ) → at (rule_by cut k).tree.parent x ≤ k
unfolding rule_by stepped
parents_le cut zero x = omega (arith, zeros_at max_nodes x)
parents_le cut (suc k) x =
    let b = rule_by cut k in
    let t = at b.tree.parent (suc k) in
    let X = cut (suc k) t in
    let below = parents_le cut k in
    placed_le (suc k) (holds X.side (at b.tree.parent t)) b.tree (suc k) t X.side X.value (omega arith) (omega (
      arith,
      below (suc k),
    )) (λ x. omega (arith, below x)) x

-- ---- what step s records: a pivot below s, and the cut of s and that pivot
pub record Recorded (cut : ℕ → ℕ → StepCut) (steps : Steps) (s : ℕ) : Type 0 where
  pub pivot : at steps.pivot s < s
  pub side : at steps.side s ≡ (cut s (at steps.pivot s)).side
  pub value : at steps.value s ≡ (cut s (at steps.pivot s)).value

-- a step leaves the records of the others
module _ (cut : ℕ → ℕ → StepCut) (b : Built) (s t : ℕ) (x : StepCut) where
  recorded_own : Long b → s < max_nodes → t < s → x ≡ cut s t → Recorded cut (stepped b s t x).steps s
  unfolding stepped
  recorded_own h l tl e =
      let p : at (set b.steps.pivot s t) s ≡ t = get_or-set_same b.steps.pivot s t 0 (omega (arith, h.pivot)) in
      record {
        pivot = rw p tl;
        side = get_or-set_same b.steps.side s x.side 0 (omega (arith, h.side)) ∙ rw p (ap (λ (y : StepCut). y.side) e);
        value = get_or-set_same b.steps.value s x.value 0 (omega (arith, h.value)) ∙ rw p (ap (λ (y : StepCut). y.value) e);
      }

  recorded_other : (i : ℕ) → i ≢ s → Recorded cut b.steps i → Recorded cut (stepped b s t x).steps i
  unfolding stepped
  recorded_other i n r =
      let p : at (set b.steps.pivot s t) i ≡ at b.steps.pivot i = get_or-set_other b.steps.pivot s i t 0 n in
      record {
        pivot = rw p r.pivot;
        side = get_or-set_other b.steps.side s i x.side 0 n ∙ rw p r.side;
        value = get_or-set_other b.steps.value s i x.value 0 n ∙ rw p r.value;
      }

pub rule_recorded : (cut : ℕ → ℕ → StepCut) (k : ℕ) → k < max_nodes → (s : ℕ) → 0 < s → s ≤ k → Recorded cut (rule_by cut k).steps s
unfolding rule_by
rule_recorded cut zero kl s l m = absurd (omega arith)
rule_recorded cut (suc k) kl s l m = go (ℕ_discrete s (suc k)) (rule_recorded cut k (omega arith) s l)
  where
    b : Built
    b = rule_by cut k

    t : ℕ
    t = at b.tree.parent (suc k)

    go : Dec (s ≡ suc k) → (s ≤ k → Recorded cut b.steps s) → Recorded cut (stepped b (suc k) t (cut (suc k) t)).steps s
    go (yes e) ih = rw e (recorded_own cut b (suc k) t (cut (suc k) t) (rule_long cut k) kl (omega (arith, parents_le cut k (suc k))) refl)
    go (no n) ih = recorded_other cut b (suc k) t (cut (suc k) t) s n (ih (omega arith))

-- ---- the count: the cuts that were worked out, by the recorded pivots
pub count_is : (cut : ℕ → ℕ → StepCut) (k : ℕ) → k < max_nodes
    → (rule_by cut k).count ≡ sum k (λ i. (cut (suc i) (at (rule_by cut k).steps.pivot (suc i))).anew)
unfolding rule_by stepped sum
count_is cut zero l = refl
count_is cut (suc k) l =
    let b = rule_by cut k in
    let t = at b.tree.parent (suc k) in
    let now : at (set b.steps.pivot (suc k) t) (suc k) ≡ t =
    get_or-set_same b.steps.pivot (suc k) t 0 (omega (arith, (rule_long cut k).pivot)) in
    let old =
    sum_ext k (λ i. (cut (suc i) (at b.steps.pivot (suc i))).anew)
    (λ i. (cut (suc i) (at (set b.steps.pivot (suc k) t) (suc i))).anew)
    (λ i il. ap (λ v. (cut (suc i) v).anew) (sym (get_or-set_other b.steps.pivot (suc k) (suc i) t 0 (λ q. omega arith)))) in
    omega (arith, count_is cut k (omega arith), old, ap (λ v. (cut (suc k) v).anew) now)

-- each step adds at most 1
pub count_le : (cut : ℕ → ℕ → StepCut) → ((s t : ℕ) → (cut s t).anew ≤ 1) → (k : ℕ) → (rule_by cut k).count ≤ k
unfolding rule_by stepped
count_le cut one zero = omega arith
count_le cut one (suc k) = omega (arith, count_le cut one k, one (suc k) (at (rule_by cut k).tree.parent (suc k)))

-- ---- equal cuts give equal trees and steps
-- the same cut, kept or worked out
pub record SameCut (x y : StepCut) : Type 0 where
  pub side : x.side ≡ y.side
  pub value : x.value ≡ y.value

-- the same tree and steps, whatever was kept
pub record SameRule (b c : Built) : Type 0 where
  pub tree : b.tree ≡ c.tree
  pub steps : b.steps ≡ c.steps

pub rule_same : (cut other : ℕ → ℕ → StepCut) (k : ℕ) → ((s t : ℕ) → t < s → s ≤ k → SameCut (cut s t) (other s t))
    → SameRule (rule_by cut k) (rule_by other k)
unfolding rule_by stepped
rule_same cut other zero h = record { tree = refl; steps = refl }
rule_same cut other (suc k) h =
    let ih = rule_same cut other k (λ s t l m. h s t l (omega arith)) in
    let t = at (rule_by cut k).tree.parent (suc k) in
    let et : t ≡ at (rule_by other k).tree.parent (suc k) = ap (λ (T : Tree). at T.parent (suc k)) ih.tree in
    let x = h (suc k) t (omega (arith, parents_le cut k (suc k))) (omega arith) in
    let es = x.side ∙ ap (λ v. (other (suc k) v).side) et in
    let ev = x.value ∙ ap (λ v. (other (suc k) v).value) et in
    record {
      tree = λ i. placed (holds (es i) (at (ih.tree i).parent (et i))) (ih.tree i) (suc k) (et i) (es i) (ev i);
      steps = λ i. record {
        pivot = set (ih.steps i).pivot (suc k) (et i);
        side = set (ih.steps i).side (suc k) (es i);
        value = set (ih.steps i).value (suc k) (ev i);
      };
    }

pub rule_ext : (cut other : ℕ → ℕ → StepCut) (k : ℕ) → ((s t : ℕ) → t < s → s ≤ k → cut s t ≡ other s t) → rule_by cut k ≡ rule_by other k
unfolding rule_by
rule_ext cut other zero h = refl
rule_ext cut other (suc k) h =
    let e : rule_by cut k ≡ rule_by other k = rule_ext cut other k (λ s t l m. h s t l (omega arith)) in
    let b = rule_by cut k in
    let t = at b.tree.parent (suc k) in
    rw (← e) (ap (stepped b (suc k) t) (h (suc k) t (omega (arith, parents_le cut k (suc k))) (omega arith)))
