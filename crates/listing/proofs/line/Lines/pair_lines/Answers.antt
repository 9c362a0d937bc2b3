-- `pair_lines` meets its contract.
use Rattle.std.proofs.Common.{refl, ◌∙◌}
use Rattle.listing.proofs.laws.LinesLaws.{lines_none, lines_fits, lines_more}
use Rattle.listing.proofs.line.Lines.pair_lines.Goals as goal

pub loop-s-init : goal.loop-s-init
loop-s-init c = record { same = refl; puts = lines_none _ _ _ }

pub pairs_of-requires-clause-s_in_bounds : goal.pairs_of-requires-clause-s_in_bounds
pairs_of-requires-clause-s_in_bounds c =
    let l = c.loop-s in
    lines_fits c.args.p l.s l.invariant.puts c.args.p.network.nodes c.loop-s-test.true c.requires

pub loop-s-preserved : goal.loop-s-preserved
loop-s-preserved c =
    let l = c.loop-s in
    let e = c.pairs_of.ensures in
    record { same = e.same ∙ l.invariant.same; puts = lines_more c.args.p l.s l.invariant.puts e.puts }
