-- `leading_to` gathers what leads to the nodes of a ring, one by one.
use Rattle.std.proofs.Common.{rules, tests}
use Rattle.flow_hints.proofs.laws.HintsLaws.{gathers_all}
use Rattle.flow_hints.proofs.hints.Hints.leading_to.Goals as goal

pub returns : goal.returns
returns c =
    gathers_all c.args.self.now c.args.ring _ (λ all v r q k. search (rules, tests)) _ _ c.nodes_in.ensures
    c.fold.ensures.ran
