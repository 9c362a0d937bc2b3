-- The loop has the subtree of v among the nodes before i.
use Rattle.std.proofs.Common.{◌≡◌}
use Rattle.base.specs.Word.{word}
use Rattle.cut_tree.specs.Path.{under}
use Rattle.cut_tree.proofs.rooted.RootedTree.subtree.Given as goal

abbrev pub invariant-loop-i : goal.invariant-loop-i
invariant-loop-i l = l.x ≡ word l.i (under l.self.tree.now.parent l.v)
