-- `put_link` meets its contract.
use Rattle.network_file.proofs.laws.WritingSteps.{wrote_more, room_first, room_behind}
use Rattle.network_file.proofs.writer.Writer.put_link.Goals as goal

pub put_number-requires-2 : goal.put_number-requires-2
put_number-requires-2 c = room_first _ _ _ _ (room_behind _ c.put_number.ensures c.requires)

pub put_number-requires-3 : goal.put_number-requires-3
put_number-requires-3 c = room_behind _ c.put_number-2.ensures (room_behind _ c.put_number.ensures c.requires)

pub returns : goal.returns
returns c = wrote_more c.put_number.ensures (wrote_more c.put_number-2.ensures c.put_number-3.ensures)
