-- The count that is left falls.
use Rattle.cut_tree.proofs.rooted.RootedTree.+climbs_through.Given as goal

abbrev pub decreases-climbs_through : goal.decreases-climbs_through
decreases-climbs_through l = l.left
