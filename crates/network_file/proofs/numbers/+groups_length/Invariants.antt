-- The measure of `groups_length`: the groups that are left.
use Rattle.network_file.proofs.numbers.+groups_length.Given as goal

abbrev pub decreases-groups_length : goal.decreases-groups_length
decreases-groups_length l = l.left
