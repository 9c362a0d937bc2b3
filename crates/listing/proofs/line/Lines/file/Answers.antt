-- `file` meets its contract: the lines of the plan that the file opens, or of its refusal.
use Rattle.std.proofs.Common.{ap, length, arith}
use Rattle.listing.proofs.laws.AddsLaws.{adds_same}
use Rattle.listing.proofs.laws.ListedLaws.{nodes_within, opened_lines, fault_line}
use Rattle.listing.proofs.line.Lines.file.Goals as goal

pub plan_lines-requires : goal.plan_lines-requires
plan_lines-requires c =
    let file = c.args.file.now in
    record {
      nodes_le_max_nodes = nodes_within file _ c.in-Ok.ensures;
      p_in_bounds = omega (arith, c.requires, ap length (opened_lines file _ c.in-Ok.ensures));
    }

pub refused_line-requires : goal.refused_line-requires
refused_line-requires c =
    omega (arith, c.requires, ap length (fault_line c.args.file.now _ c.in-Err.ensures))

pub returns-in-Ok : goal.returns-in-Ok
returns-in-Ok c = adds_same (opened_lines c.args.file.now _ c.in-Ok.ensures) c.plan_lines.ensures

pub returns-in-Err : goal.returns-in-Err
returns-in-Err c = adds_same (fault_line c.args.file.now _ c.in-Err.ensures) c.refused_line.ensures
