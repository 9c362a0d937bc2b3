-- The loop's invariant of `links`: the network holds the first k links, and the file stays.
use Rattle.std.proofs.Common.{◌≡◌}
use Rattle.network_file.specs.code.Rows.{row_of}
use Rattle.network_file.proofs.laws.LinksSteps.{LinksRead}
use Rattle.network_file.proofs.reader.Reader.links.Given as goal

abbrev pub invariant-loop-k : goal.invariant-loop-k
invariant-loop-k l =
    let s = l.initial.self.file.now in
    record {
      same : l.self.file.now ≡ s;
      read : LinksRead (row_of l.third) s l.n l.m l.initial.self.place l.network l.self.place l.k;
    }
