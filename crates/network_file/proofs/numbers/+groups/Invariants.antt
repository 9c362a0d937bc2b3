-- The measures of `read_groups` and `continued_by`: twice the groups that are left, and one more behind a byte.
use Rattle.std.proofs.Common.{◌+◌, ◌*◌}
use Rattle.network_file.proofs.numbers.+groups.Given as goal

abbrev pub decreases-read_groups : goal.decreases-read_groups
decreases-read_groups l = 2 * l.left

abbrev pub decreases-continued_by : goal.decreases-continued_by
decreases-continued_by l = 2 * l.left + 1
