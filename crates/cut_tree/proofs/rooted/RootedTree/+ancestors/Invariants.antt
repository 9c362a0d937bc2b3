-- The count that is left falls.
use Rattle.cut_tree.proofs.rooted.RootedTree.+ancestors.Given as goal

abbrev pub decreases-ancestors : goal.decreases-ancestors
decreases-ancestors l = l.left
