-- `fill` puts in the arcs of the links that have come.
use Rattle.std.proofs.Common.{◌≡◌}
use Rattle.network.proofs.laws.EachLink.{Numbered}
use Rattle.flow_hints.specs.code.Hints.{table_up_to}
use Rattle.flow_hints.proofs.table.ArcTable.fill.Given as goal

abbrev pub invariant-loop-k : goal.invariant-loop-k
invariant-loop-k l =
    record {
      numbered : Numbered l.fn.net l.k-iterator;
      filled : l.self ≡ table_up_to l.fn.net.network l.initial.self l.k-iterator.iter.come;
    }
