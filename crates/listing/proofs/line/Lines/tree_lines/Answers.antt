-- `tree_lines` meets its contract.
use Rattle.std.proofs.Common.{refl, ◌∙◌, arith}
use Rattle.listing.proofs.laws.LinesLaws.{tree_none, tree_fits_lem, tree_more}
use Rattle.listing.proofs.line.Lines.tree_lines.Goals as goal

pub loop-i-init : goal.loop-i-init
loop-i-init c = record { within = omega arith; stands = record { same = refl; puts = tree_none _ _ _ } }

pub tree_line-requires-clause-node_in_bounds : goal.tree_line-requires-clause-node_in_bounds
tree_line-requires-clause-node_in_bounds c =
    let l = c.loop-i in
    tree_fits_lem c.args.tree l.i (omega arith) l.invariant.stands.puts c.args.nodes c.loop-i-test.true
    c.requires.nodes_in_bounds

pub loop-i-preserved : goal.loop-i-preserved
loop-i-preserved c =
    let l = c.loop-i in
    let s = l.invariant.stands in
    let e = c.tree_line.ensures in
    record {
      within = omega arith;
      stands = record { same = e.same ∙ s.same; puts = tree_more c.args.tree l.i (omega arith) s.puts e.puts };
    }
