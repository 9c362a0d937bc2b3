-- `network::Network::links_fit` meets its contract. The loop's invariant: the links before k fit.
use Rattle.std.proofs.Common.{◌≡◌, sym, ap, ◌∙◌, ℕ, arith}
use Rattle.base.specs.Basics.{all}
use Rattle.base.proofs.laws.TestLaws.{all_none, all_more, all_fails}
use Rattle.network.specs.Network.{link_fits}
use Rattle.network.proofs.Network.links_fit.Goals as goal
use Rattle.network.proofs.Network.links_fit.Goals.{After-is_within}

-- what is asked of link k
this : (c : After-is_within) → c.is_within.result ≡ link_fits c.args.self.now c.loop-k.k
this c = rw (c.link.ensures.a, c.link.ensures.b, c.link.ensures.capacity) at c.is_within.ensures

pub loop-k-init : goal.loop-k-init
loop-k-init c = all_none _

pub returns-then-not-is_within : goal.returns-then-not-is_within
returns-then-not-is_within c =
    let e = this (goal.at.returns-then-not-is_within c).After-is_within in
    sym (all_fails _ _ c.loop-k.k c.loop-k-test.true (sym e ∙ c.if-not-is_within.true))

pub loop-k-preserved : goal.loop-k-preserved
loop-k-preserved c =
    let e = this (goal.at.loop-k-preserved c).After-is_within in
    all_more _ _ c.loop-k.invariant (sym e ∙ c.if-not-is_within.false)

pub returns : goal.returns
returns c = sym c.loop-k.invariant ∙ ap (λ (k : ℕ). all k (link_fits c.args.self.now)) (omega arith)
