-- Where each parent goes as node s is placed beside its pivot t, or between t and t's parent; and which weights are left.
use Rattle.std.specs.Prelude.{◌≡◌, refl, ◌≢◌, Bool, true, false, ◌&&◌, List, ℕ, ◌+◌, ◌^◌, ◌<◌, length, set, eqb}
use Rattle.std.proofs.Common.{sym, ap, ◌∙◌, arith, length-set, get_or-set_same, get_or-set_other}
use Rattle.std.proofs.Math.Decide.{dec_lt}
use Rattle.std.proofs.Math.ListN.{get_or-eq_default}
use Rattle.base.specs.Word.{holds}
use Rattle.base.proofs.laws.WordLaws.{holds_out}
use Rattle.base.specs.Basics.{pick, at}
use Rattle.min_cut.specs.GusfieldTree.{Goes}
use Rattle.min_cut.proofs.theorems.GusfieldTree.{goes_by}
use Rattle.network.specs.Limits.{max_nodes}
use Rattle.cut_tree.specs.Rule.{moved, placed}
use Rattle.cut_tree.proofs.laws.RuleLaws.{length_moved, moved_at}
use Rattle.cut_tree.specs.declared.Tree.{Tree}

-- where every node goes, those beyond the array too: a word has no bit there
moved_all : (X s t : ℕ) (ps : List ℕ) → length ps ≡ max_nodes → X < 2 ^ max_nodes → (x : ℕ)
    → at (moved X s t 0 ps) x ≡ pick (holds X x && eqb (at ps x) t) s (at ps x)
moved_all X s t ps e l x = go (dec_lt x max_nodes)
  where
    go : Dec (x < max_nodes) → at (moved X s t 0 ps) x ≡ pick (holds X x && eqb (at ps x) t) s (at ps x)
    go (yes m) =
        let z : 0 + x ≡ x = omega arith in moved_at X s t 0 ps x (omega arith) ∙ ap (λ v. pick (holds X v && eqb (at ps x) t) s (at ps x)) z
    go (no m) =
        get_or-eq_default (moved X s t 0 ps) 0 (omega (arith, length_moved X s t 0 ps))
        ∙ rw (holds_out max_nodes X x l (omega arith)) (sym (get_or-eq_default ps 0 (omega arith)))

-- ---- the parents
module _ (tree : Tree) (pl : length tree.parent ≡ max_nodes) (s t X w : ℕ) (xl : X < 2 ^ max_nodes) where
  abbrev ms : List ℕ
  ms = moved X s t 0 tree.parent

  abbrev q : ℕ
  q = at tree.parent t

  long : length ms ≡ max_nodes
  long = length_moved X s t 0 tree.parent ∙ pl

  goes : (p' : ℕ → ℕ) (x : ℕ) → p' x ≡ at ms x → Goes (at tree.parent) p' (holds X) s t x
  goes p' x e = goes_by (at tree.parent) p' (holds X) s t x (e ∙ moved_all X s t tree.parent pl xl x)

  -- beside the pivot
  pub beside_goes : (x : ℕ) → x ≢ s → Goes (at tree.parent) (at (placed false tree s t X w).parent) (holds X) s t x
  beside_goes x n = goes (at (set ms s t)) x (get_or-set_other ms s x t 0 n)

  pub beside_own : s < max_nodes → at (placed false tree s t X w).parent s ≡ t
  beside_own l = get_or-set_same ms s t 0 (omega (arith, long))

  -- between the pivot and its parent
  pub between_goes : (x : ℕ) → x ≢ s → x ≢ t → Goes (at tree.parent) (at (placed true tree s t X w).parent) (holds X) s t x
  between_goes x n o = goes (at (set (set ms s q) t s)) x (get_or-set_other (set ms s q) t x s 0 o ∙ get_or-set_other ms s x q 0 n)

  pub between_own : s < max_nodes → s ≢ t → at (placed true tree s t X w).parent s ≡ q
  between_own l n = get_or-set_other (set ms s q) t s s 0 n ∙ get_or-set_same ms s q 0 (omega (arith, long))

  pub between_pivot : t < max_nodes → at (placed true tree s t X w).parent t ≡ s
  between_pivot l = get_or-set_same (set ms s q) t s 0 (rw length-set (omega (arith, long)))

-- ---- the weights
pub weight_out : (b : Bool) (tree : Tree) (s t X w x : ℕ) → x ≢ s → (b ≡ true → x ≢ t)
    → at (placed b tree s t X w).weight x ≡ at tree.weight x
weight_out false tree s t X w x ns nt = get_or-set_other tree.weight s x w 0 ns
weight_out true tree s t X w x ns nt =
    let v = at tree.weight t in
    get_or-set_other (set tree.weight s v) t x w 0 (nt refl) ∙ get_or-set_other tree.weight s x v 0 ns
