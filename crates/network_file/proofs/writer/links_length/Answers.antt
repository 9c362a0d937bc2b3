-- `links_length` meets its contract: what the links have, added up.
use Rattle.std.proofs.Common.{rules, tests, ℕ, length, arith, ◌∙◌}
use Rattle.network.specs.Limits.{max_groups}
use Rattle.network.specs.declared.link.Link.{Link}
use Rattle.network.proofs.laws.NetworkLaws.{links_le}
use Rattle.network.proofs.laws.EachLink.{links_sum, links_sum_fits}
use Rattle.network_file.specs.Writing.{bytes_of_link}
use Rattle.network_file.proofs.laws.LengthLaws.{links_most}
use Rattle.network_file.proofs.laws.WritingSteps.{links_length}
use Rattle.network_file.proofs.writer.links_length.Goals as goal

abbrev long : Link → ℕ
long l = length (bytes_of_link max_groups l.a l.b l.capacity)

pub sum-requires-clause-fits : goal.sum-requires-clause-fits
sum-requires-clause-fits c =
    let net = c.args.net.network in
    let fits = c.args.net.fits in
    let each = c.each_link.ensures in
    let on = c.map.ensures in
    links_sum_fits _ long c.args.net each.net each.come on.source on.closure (λ l r q k. search (rules, tests))
    18446744073709551616 (omega (arith, links_length net, links_le net fits, links_most net fits net.links (omega arith)))

pub returns : goal.returns
returns c =
    let each = c.each_link.ensures in
    let on = c.map.ensures in
    links_sum _ long c.args.net each.net each.come on.source on.closure (λ l r q k. search (rules, tests)) _ c.sum.ensures.ran
    ∙ links_length c.args.net.network
