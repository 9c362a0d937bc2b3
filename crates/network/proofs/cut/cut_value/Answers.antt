-- `network::cut::cut_value` meets its contract: what the links give, added up, is the side's value.
use Rattle.std.proofs.Common.{rules, tests, ℕ, arith, ◌∙◌}
use Rattle.base.specs.Word.{holds}
use Rattle.min_cut.specs.Cut.{crossing}
use Rattle.network.specs.declared.link.Link.{Link}
use Rattle.network.proofs.laws.NetworkLaws.{value_le}
use Rattle.network.proofs.laws.EachLink.{links_sum, links_sum_fits, value_links}
use Rattle.network.proofs.cut.cut_value.Goals as goal

-- what a link gives
abbrev gives : ℕ → Link → ℕ
gives side l = crossing (holds side l.a) (holds side l.b) l.capacity

pub sum-requires-clause-fits : goal.sum-requires-clause-fits
sum-requires-clause-fits c =
    let net = c.args.net.network in
    let each = c.each_link.ensures in
    let on = c.map.ensures in
    links_sum_fits _ (gives c.args.side) c.args.net each.net each.come on.source on.closure (λ l r q k. search (rules, tests)) 4294967296
    (omega (arith, value_links net (holds c.args.side), value_le net c.args.net.fits (holds c.args.side)))

pub returns : goal.returns
returns c =
    let each = c.each_link.ensures in
    let on = c.map.ensures in
    links_sum _ (gives c.args.side) c.args.net each.net each.come on.source on.closure (λ l r q k. search (rules, tests)) _
    c.sum.ensures.ran
    ∙ value_links c.args.net.network (holds c.args.side)
