-- `groups_length` meets its contract.
use Rattle.std.proofs.Common.{ap, arith, length, ◌-◌, ◌/◌}
use Rattle.network_file.proofs.laws.NumberSteps.{no_groups, one_group, some_groups}
use Rattle.network_file.proofs.laws.LengthLaws.{groups_most}
use Rattle.network_file.proofs.numbers.+groups_length.Goals as goal

pub returns-then-left-eq0 : goal.returns-then-left-eq0
returns-then-left-eq0 t c = rw (no_groups c.args.left c.args.v c.if-left-eq0.true)

pub returns-then-v-lt128 : goal.returns-then-v-lt128
returns-then-v-lt128 t c =
    rw (one_group c.args.left c.args.v c.if-left-eq0.false c.if-v-lt128.true)

pub overflow_add-result : goal.overflow_add-result
overflow_add-result t c =
    omega (arith, groups_most (c.args.left - 1) (c.args.v / 128))

pub returns : goal.returns
returns t c =
    omega (arith, ap length (some_groups c.args.left c.args.v c.if-left-eq0.false c.if-v-lt128.false))
