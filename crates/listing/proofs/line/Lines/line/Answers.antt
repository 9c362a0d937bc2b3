-- `line` meets its contract: the word, then the numbers.
use Rattle.listing.proofs.laws.AddsLaws.{adds_then, room_then}
use Rattle.listing.proofs.line.Lines.line.Goals as goal

pub numbers-requires : goal.numbers-requires
numbers-requires c = room_then _ c.requires c.word.ensures

pub returns : goal.returns
returns c = adds_then c.word.ensures c.numbers.ensures
