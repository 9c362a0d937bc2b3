-- `next` of the links of a network meets what it is said to give.
use Rattle.std.proofs.Common.{arith, refl}
use Rattle.network.proofs.laws.EachLink.{is_link}
use Rattle.network.proofs.links.LinksIterator.next.Goals as goal

pub returns-clause-steps : goal.returns-clause-steps
returns-clause-steps c =
    let link = c.link-link.ensures in
    (is_link _ _ _ c.args.self.now.net.now.fits (omega arith) link.a link.b link.capacity, refl, refl)
