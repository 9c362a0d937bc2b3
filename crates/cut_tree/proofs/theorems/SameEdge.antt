-- The lightest edge of a set, the lowest number among equals, is one edge whatever order they are met in; and that of a
-- path is the same from both ends, of any parents and weights.
use Rattle.std.specs.Prelude.{ℕ, ◌≡◌, Bool, List}
use Rattle.std.proofs.Common.{ap, arith}
use Rattle.std.proofs.Math.Path.{fun_ext}
use Rattle.base.proofs.laws.Bools.{differ_turned}
use Rattle.cut_tree.specs.Path.{under, on_path, lightest_of, lightest_on}
use Rattle.cut_tree.specs.Answer.{LowestLightest}
use Rattle.cut_tree.specs.declared.Tree.{Tree}

pub one_lightest : (weight : List ℕ) (edges : ℕ → Bool) (u v : ℕ) → LowestLightest weight edges u
    → LowestLightest weight edges v → u ≡ v
one_lightest weight edges u v x y =
    let up = x.lightest.least v y.lightest.is_on_path in
    let down = y.lightest.least u x.lightest.is_on_path in
    omega (
      arith,
      x.lowest v y.lightest.is_on_path (omega arith),
      y.lowest u x.lightest.is_on_path (omega arith),
    )

pub same_path : (parent : List ℕ) (s t u : ℕ) → on_path parent s t u ≡ on_path parent t s u
same_path parent s t u = differ_turned (under parent u s) (under parent u t)

pub same_edge : (tree : Tree) (s t : ℕ) → lightest_on tree s t ≡ lightest_on tree t s
unfolding lightest_on
same_edge tree s t = ap (lightest_of tree.weight) (fun_ext (same_path tree.parent s t))
