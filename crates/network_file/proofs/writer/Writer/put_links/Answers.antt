-- `put_links` meets its contract.
use Rattle.std.proofs.Common.{◌≡◌}
use Rattle.network.proofs.laws.EachLink.{gives_all, gives_one}
use Rattle.network_file.proofs.laws.WritingSteps.{none_written, has_places, one_written, link_read}
use Rattle.network_file.proofs.writer.Writer.put_links.Goals as goal

pub loop-link-init : goal.loop-link-init
loop-link-init c =
    let e : c.into_iter-link-iterator.result ≡ c.each_link-link-items.result = cc in
    let first = c.each_link-link-items.ensures in
    rw e (record { given = gives_all first.net first.come; written = rw first.come (none_written _ _) })

pub put_link-requires : goal.put_link-requires
put_link-requires c =
    let o = c.loop-link.invariant in
    let link = (gives_one o.given c.in-Some.ensures.steps).0 in
    rw (link_read _ link) (has_places o.written link.some c.requires)

pub loop-link-preserved : goal.loop-link-preserved
loop-link-preserved c =
    let o = c.loop-link.invariant in
    let turn = c.in-Some.ensures.steps in
    let g = gives_one o.given turn in
    let written = one_written o.written g.0.some _ (rw (link_read _ g.0) at c.put_link.ensures) in
    record { given = g.1; written = rw turn.2 written }
