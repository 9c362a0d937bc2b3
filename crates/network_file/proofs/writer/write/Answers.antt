-- `write` meets its contract: the length is known before the first byte is written.
use Rattle.std.proofs.Common.{refl, arith, rules, ◌++◌, ◌+◌, ◌≤◌, length}
use Rattle.network.specs.Limits.{max_groups}
use Rattle.network_file.specs.Number.{number_bytes}
use Rattle.network_file.specs.Writing.{link_bytes}
use Rattle.network_file.proofs.laws.WritingSteps.{refuses_short, room_first, room_behind, file_room, fills_front}
use Rattle.network_file.proofs.writer.write.Goals as goal
use Rattle.network_file.proofs.writer.write.Goals.{Else-out-length}

-- a buffer that is long enough has room for the three runs
room : (c : Else-out-length)
    → let net = c.args.net.network in
    0 + length (number_bytes net.nodes ++ (number_bytes net.links ++ link_bytes max_groups net net.links)) ≤ length c.args.out.now
room c = file_room c.args.net.network c.file_length-length.ensures c.if-out-length.false

pub returns-then-out-length : goal.returns-then-out-length
returns-then-out-length c =
    let e = c.file_length-length.ensures in
    let h = refuses_short c.args.net.network c.args.out.now (omega (arith, c.if-out-length.true, e)) in
    record { value = h.0; out_after = h.1 }

pub put_number-requires : goal.put_number-requires
put_number-requires c = room_first _ _ _ _ (room (goal.at.put_number-requires c).Else-out-length)

pub put_number-requires-2 : goal.put_number-requires-2
put_number-requires-2 c =
    room_first _ _ _ _ (room_behind _ c.put_number.ensures (room (goal.at.put_number-requires-2 c).Else-out-length))

pub put_links-requires : goal.put_links-requires
put_links-requires c =
    room_behind _ c.put_number-2.ensures
    (room_behind _ c.put_number.ensures (room (goal.at.put_links-requires c).Else-out-length))

pub returns : goal.returns
returns c =
    let h = fills_front c.args.net.network c.args.out.now _ _ _ _ _ c.file_length-length.ensures c.if-out-length.false
    refl refl c.put_number.ensures c.put_number-2.ensures c.put_links.ensures in
    record { value = h.0; out_after = search (rules, h.1, h.2) }
