-- `plan::NodeCount::rooted` meets its contract: a climb along parents that are nodes stays among the nodes.
use Rattle.std.proofs.Common.{rules}
use Rattle.std.proofs.lemmas.Iterator.{serves_from_Range}
use Rattle.base.proofs.laws.RangeLaws.{all_from_zero}
use Rattle.cut_tree.specs.Path.{max_climb, reaches}
use Rattle.plan.proofs.laws.SoundLaws.{parents_inside}
use Rattle.plan.proofs.node_count.NodeCount.rooted.Goals as goal

pub all-requires-clause-callable : goal.all-requires-clause-callable
all-requires-clause-callable c =
    serves_from_Range (λ x q k. search rules)
    (λ x a l. let i = parents_inside c.args.self.count c.args.parent.now c.args.self.few c.requires x l in search (rules, i))

pub returns : goal.returns
returns c = all_from_zero (reaches c.args.parent.now max_climb) c.args.self.count c.all.ensures.ran (λ x b q k. search rules)
