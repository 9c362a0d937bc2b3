-- `pair_line` meets its contract: the numbers are those of the pair's line.
use Rattle.std.proofs.Common.{rules, ap, length, arith}
use Rattle.listing.proofs.laws.AddsLaws.{adds_same}
use Rattle.listing.proofs.laws.LinesLaws.{pair_is}
use Rattle.listing.proofs.line.Lines.pair_line.Goals as goal

pub line-requires : goal.line-requires
line-requires c =
    let line = pair_is c.args.p _ _ c.pair.result c.pair.ensures c.map_or-weight.ensures (λ found h. search rules) in
    omega (arith, c.requires, ap length line)

pub returns : goal.returns
returns c =
    let line = pair_is c.args.p _ _ c.pair.result c.pair.ensures c.map_or-weight.ensures (λ found h. search rules) in
    adds_same line c.line.ensures
