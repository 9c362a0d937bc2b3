-- `network::incidence_of` meets its contract.
-- The loop's invariant: the chains of the arcs of the links that have come are built.
use Rattle.std.specs.Prelude.{◌*◌}
use Rattle.network.proofs.laws.EachLink.{Numbered}
use Rattle.network.proofs.laws.IncidenceLaws.{Built}
use Rattle.network.proofs.incidence.incidence_of.Given as goal

abbrev pub invariant-loop-k : goal.invariant-loop-k
invariant-loop-k l =
    let links = l.k-iterator.iter in
    record {
      numbered : Numbered l.fn.net l.k-iterator;
      built : Built l.fn.net.network (2 * links.come) l.arcs.first l.arcs.next l.arcs.to;
    }
