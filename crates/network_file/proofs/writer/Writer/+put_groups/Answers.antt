-- `put_groups` meets its contract: each way through it writes the bytes of one clause of `group_bytes`.
use Rattle.std.proofs.Common.{length, arith, ap, ◌≡◌, ◌∷◌, ◌+◌, ◌-◌, ◌/◌, ◌%◌, ℕ}
use Rattle.network_file.specs.Number.{group_bytes}
use Rattle.network_file.proofs.laws.NumberSteps.{no_groups, one_group, some_groups}
use Rattle.network_file.proofs.laws.WritingSteps.{none_wrote, wrote_more, room_behind}
use Rattle.network_file.proofs.writer.Writer.+put_groups.Goals as goal
use Rattle.network_file.proofs.writer.Writer.+put_groups.Goals.{Else-v-lt128}

-- a group, and more behind it
more : {t : ℕ} (c : Else-v-lt128 t)
    → group_bytes c.args.left c.args.v ≡ (128 + c.args.v % 128) ∷ group_bytes (c.args.left - 1) (c.args.v / 128)
more c = some_groups c.args.left c.args.v c.if-left-eq0.false c.if-v-lt128.false

pub returns-then-left-eq0 : goal.returns-then-left-eq0
returns-then-left-eq0 t c = rw (no_groups c.args.left c.args.v c.if-left-eq0.true) (none_wrote _)

pub put-requires : goal.put-requires
put-requires t c =
    omega (arith, c.requires, ap length (one_group c.args.left c.args.v c.if-left-eq0.false c.if-v-lt128.true))

pub returns-then-v-lt128 : goal.returns-then-v-lt128
returns-then-v-lt128 t c =
    rw (one_group c.args.left c.args.v c.if-left-eq0.false c.if-v-lt128.true) c.put.ensures

pub put-requires-2 : goal.put-requires-2
put-requires-2 t c = omega (arith, c.requires, ap length (more (goal.at.put-requires-2 t c).Else-v-lt128))

pub put_groups-requires : goal.put_groups-requires
put_groups-requires t c =
    let e = more (goal.at.put_groups-requires t c).Else-v-lt128 in
    (omega arith, room_behind _ c.put-2.ensures (rw e at c.requires))

pub returns : goal.returns
returns t c =
    let e = more (goal.at.returns t c).Else-v-lt128 in
    rw e (wrote_more c.put-2.ensures c.put_groups.ensures)
