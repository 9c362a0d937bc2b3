-- A pair's answer as the numbers that C gets, and back.
use Rattle.base.specs.Checks.{accepted}
use Rattle.cut_tree.specs.Path.{PairAnswer}
use Rattle.cut_tree.specs.Path.{Refused, Found}
use Rattle.exports.specs.declared.held.PairReply.{PairReply}

-- beside a refusal all else is 0
abbrev pub pair_reply : PairAnswer → PairReply
pair_reply (Refused number) = record { number = number; weight = 0; side = 0; node = 0; size = 0 }
pair_reply (Found weight node side size) =
    record { number = 0; weight = weight; side = side; node = node; size = size }

-- the answer that a caller reads in such numbers
abbrev pub answer_in : PairReply → PairAnswer
answer_in r = accepted r.number (Found r.weight r.node r.side r.size) Refused
