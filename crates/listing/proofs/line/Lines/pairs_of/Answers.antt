-- `pairs_of` meets its contract.
use Rattle.std.proofs.Common.{refl, ◌∙◌, arith}
use Rattle.listing.proofs.laws.LinesLaws.{pairs_none, pairs_fits, pairs_more}
use Rattle.listing.proofs.line.Lines.pairs_of.Goals as goal

pub loop-t-init : goal.loop-t-init
loop-t-init c = record { same = refl; puts = pairs_none _ _ _ _ }

pub pair_line-requires : goal.pair_line-requires
pair_line-requires c =
    let l = c.loop-t in
    pairs_fits c.args.p c.args.s l.t (omega arith) l.invariant.puts c.args.p.network.nodes c.loop-t-test.true
    c.requires.s_in_bounds

pub loop-t-preserved : goal.loop-t-preserved
loop-t-preserved c =
    let l = c.loop-t in
    let e = c.pair_line.ensures in
    record {
      same = e.same ∙ l.invariant.same;
      puts = pairs_more c.args.p c.args.s l.t (omega arith) l.invariant.puts e.puts;
    }
