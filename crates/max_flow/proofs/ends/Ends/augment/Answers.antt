-- `augment` meets its contract: at every turn `total` is that of the flow which the residual capacities hold, and it is
-- at most `max_value`.
use Rattle.std.proofs.Common.{refl, sym, ◌∙◌, ◌-◌, ◌<◌, arith}
use Rattle.base.specs.Basics.{at}
use Rattle.network.specs.Limits.{max_nodes}
use Rattle.network.specs.declared.Network.{Network}
use Rattle.max_flow.proofs.code.LinkFlows.{moderate}
use Rattle.max_flow.specs.code.Augment.{Growth}
use Rattle.max_flow.specs.code.Ends.{OfNetwork}
use Rattle.max_flow.specs.code.Residuals.{Flowing}
use Rattle.max_flow.proofs.code.Augment.{grows, sending, at_end_lem, last_lt}
use Rattle.max_flow.proofs.laws.GrowthLaws.{flow_start}
use Rattle.max_flow.proofs.ends.Ends.augment.Goals as goal
use Rattle.max_flow.proofs.ends.Ends.augment.Goals.{After-push-flow, After-send_all-total, Else-not-contains}

-- the flow after the phases, of a network that the contract names
after : (c : After-send_all-total) (net : Network)
    → OfNetwork net c.args.self.now
    → Flowing net c.args.self.now.s c.args.self.now.t c.send_all-total.result c.send_all-total.new.flow.residual
after c net a = c.send_all-total.ensures.flowing net a (c.loop-flow.invariant.1 net a)

pub loop-flow-init : goal.loop-flow-init
loop-flow-init c = (refl, λ net a. flow_start a.ready.ends _ a.unsent)

pub send_all-total-requires : goal.send_all-total-requires
send_all-total-requires c =
    let p = c.requires in
    (p.0, p.1, c.loop-flow.invariant.1 p.0 p.1)

pub write_flow-requires : goal.write_flow-requires
write_flow-requires c =
    let p = c.requires in
    let f = after (goal.at.write_flow-requires c).After-send_all-total p.0 p.1 in
    rw c.loop-flow.invariant.0 (moderate p.1.ready.ends p.1.unsent f _ p.2)

pub returns-then-not-contains : goal.returns-then-not-contains
returns-then-not-contains c =
    λ net a.
    at_end_lem a.ready.ends (after (goal.at.returns-then-not-contains c).After-send_all-total net a)
    (c.search-tree.ensures net a)
    (sym c.contains.ensures ∙ c.if-not-contains.true)
    a.unsent (rw c.loop-flow.invariant.0 at c.write_flow.ensures)

-- the last place of the tree
last : (c : Else-not-contains) → (0 < c.search-tree.result.count) × (c.search-tree.result.count - 1 < max_nodes)
last c =
    let p = c.requires in
    let f = c.send_all-total.ensures.flowing p.0 p.1 (c.loop-flow.invariant.1 p.0 p.1) in
    last_lt p.1.ready.ends f (c.search-tree.ensures p.0 p.1)

pub offset_bounds-tree-last : goal.offset_bounds-tree-last
offset_bounds-tree-last c = omega (arith, last (goal.at.offset_bounds-tree-last c).Else-not-contains)

pub bounds-tree-last : goal.bounds-tree-last
bounds-tree-last c = (last (goal.at.bounds-tree-last c).Else-not-contains).1

pub push-flow-requires : goal.push-flow-requires
push-flow-requires c =
    let p = c.requires in
    let f = after (goal.at.push-flow-requires c).After-send_all-total p.0 p.1 in
    (p.0, c.args.self.now.s, sending p.1.ready.ends f (c.search-tree.ensures p.0 p.1) (omega arith))

-- the flow after the path
grown : (c : After-push-flow) (net : Network)
    → OfNetwork net c.args.self.now
    → Growth net c.args.self.now.s c.args.self.now.t c.send_all-total.result
    (at c.search-tree.result.bottleneck (c.search-tree.result.count - 1))
    c.push-flow.result
grown c net a =
    let f = c.send_all-total.ensures.flowing net a (c.loop-flow.invariant.1 net a) in
    let o = c.search-tree.ensures net a in
    grows a.ready.ends f o (sym c.contains.ensures ∙ c.if-not-contains.false)
    (c.push-flow.ensures net c.args.self.now.s (sending a.ready.ends f o (omega arith)))

pub overflow_add-total : goal.overflow_add-total
overflow_add-total c =
    let p = c.requires in
    omega (arith, (grown (goal.at.overflow_add-total c).After-push-flow p.0 p.1).most)

pub loop-flow-smaller : goal.loop-flow-smaller
loop-flow-smaller c =
    let p = c.requires in
    let g = grown (goal.at.loop-flow-smaller c).After-push-flow p.0 p.1 in
    omega (arith, c.send_all-total.ensures.lower_bound, g)

pub loop-flow-preserved : goal.loop-flow-preserved
loop-flow-preserved c = (
  c.loop-flow.invariant.0,
  λ net a. (grown (goal.at.loop-flow-preserved c).After-push-flow net a).flowing,
)
