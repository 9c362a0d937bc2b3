-- `network::incidence_of` meets its contract.
-- The loop's invariant: the chains of the arcs of the links that have come are built.
use Rattle.std.proofs.Common.{◌≡◌, ap, sym}
use Rattle.base.specs.Basics.{at}
use Rattle.network.proofs.laws.EachLink.{gives_all, turns}
use Rattle.network.proofs.laws.IncidenceLaws.{built_none, built_link}
use Rattle.network.proofs.incidence.incidence_of.Goals as goal

pub loop-k-init : goal.loop-k-init
loop-k-init c =
    let links : c.into_iter-k-iterator.result.iter ≡ c.each_link.result = cc in
    let count : c.into_iter-k-iterator.result.count ≡ 0 = cc in
    let first = c.each_link.ensures in
    rw (links, count) (record {
      numbered = record { given = gives_all first.net first.come; number = sym first.come };
      built = rw first.come (built_none c.args.net.network);
    })

pub loop-k-preserved : goal.loop-k-preserved
loop-k-preserved c =
    let net = c.args.net.network in
    let there = c.add_arc in
    let back = c.add_arc-in-loop-k in
    let o = c.loop-k.invariant in
    let turn = turns o.numbered c.in-Some.ensures.steps in
    let come = c.loop-k.k-iterator.iter.come in
    let k : c.in-Some.k ≡ come = turn.place in
    let a : c.in-Some.link.a ≡ at net.a come = ap (λ l. l.a) turn.is.same in
    let b : c.in-Some.link.b ≡ at net.b come = ap (λ l. l.b) turn.is.same in
    record {
      numbered = turn.next;
      built =
          rw turn.come
          (built_link net c.args.net.fits come _ _ there.new.self.first there.new.self.next
          back.new.self.first back.new.self.next _ there.new.self.to back.new.self.to o.built turn.is.some
          (rw (k, a) at there.ensures.first_after) (rw (k, a) at there.ensures.next_after)
          (rw (k, b) at there.ensures.to_after) (rw (k, b) at back.ensures.first_after)
          (rw (k, b) at back.ensures.next_after) (rw (k, a) at back.ensures.to_after));
    }
