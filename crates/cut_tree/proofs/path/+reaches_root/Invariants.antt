-- The count that is left falls.
use Rattle.cut_tree.proofs.path.+reaches_root.Given as goal

abbrev pub decreases-reaches_root : goal.decreases-reaches_root
decreases-reaches_root l = l.left
