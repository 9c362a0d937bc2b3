-- The loop's invariant of `put_links`: the links that have come are written.
use Rattle.network.proofs.laws.EachLink.{Gives}
use Rattle.network_file.proofs.laws.WritingSteps.{LinksWritten}
use Rattle.network_file.proofs.writer.Writer.put_links.Given as goal

abbrev pub invariant-loop-link : goal.invariant-loop-link
invariant-loop-link l =
    record {
      given : Gives l.fn.net l.link-iterator;
      written : LinksWritten l.fn.net.network l.initial.self l.self l.link-iterator.come;
    }
