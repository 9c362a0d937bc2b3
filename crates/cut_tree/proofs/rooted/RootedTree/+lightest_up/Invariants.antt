-- The count that is left falls.
use Rattle.cut_tree.proofs.rooted.RootedTree.+lightest_up.Given as goal

abbrev pub decreases-lightest_up : goal.decreases-lightest_up
decreases-lightest_up l = l.left
