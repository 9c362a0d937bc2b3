-- Laws of the cuts that a rebuild takes, by any keeping test: which of them count, and which are worked out.
use Rattle.std.specs.Prelude.{◌≡◌, ◌≢◌, Bool, true, false, ℕ, ◌≤◌}
use Rattle.std.proofs.Math.Path.{refl}
use Rattle.std.proofs.Common.{arith, ne_eqb}
use Rattle.base.specs.Basics.{pick, at}
use Rattle.base.proofs.laws.ListLaws.{pick_le}
use Rattle.network.specs.declared.Network.{Network}
use Rattle.cut_tree.specs.Rule.{least_cut}
use Rattle.cut_tree.specs.Rebuild.{KeepTest, kept_by, kept_or_least_by}
use Rattle.cut_tree.specs.declared.Steps.{Steps}
use Rattle.cut_tree.specs.Rule.{StepCut}

pick_anew : (b : Bool) (x y : StepCut) → x.anew ≡ 0 → y.anew ≡ 1 → (pick b x y).anew ≡ pick b 0 1
pick_anew true x y e f = e
pick_anew false x y e f = f

module _ (new : Network) (test : KeepTest) (fall : ℕ) (steps : Steps) (s t : ℕ) where
  -- a cut counts where it is not kept
  pub cut_anew : (kept_or_least_by new test fall steps s t).anew ≡ pick (kept_by test steps s t) 0 1
  unfolding kept_or_least_by least_cut
  cut_anew = pick_anew (kept_by test steps s t) _ _ refl refl

  pub anew_le : (kept_or_least_by new test fall steps s t).anew ≤ 1
  anew_le = rw cut_anew (pick_le 1 (kept_by test steps s t) 0 1 (omega arith) (omega arith))

  -- a step whose pivot is another one is worked out
  pub pivot_moved : at steps.pivot s ≢ t → kept_or_least_by new test fall steps s t ≡ least_cut new s t
  unfolding kept_or_least_by kept_by
  pivot_moved n = rw (ne_eqb (at steps.pivot s) t n)
