-- The measure of `put_groups`: the groups that are left.
use Rattle.network_file.proofs.writer.Writer.+put_groups.Given as goal

abbrev pub decreases-put_groups : goal.decreases-put_groups
decreases-put_groups l = l.left
