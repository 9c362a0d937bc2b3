-- The rule makes a cut tree (source document 001, Definition 1) of every network within the limits.
use Rattle.network.specs.Network.{WithinLimits}
use Rattle.network.specs.declared.Network.{Network}
use Rattle.cut_tree.specs.Rule.{rule}
use Rattle.cut_tree.specs.Definition1.{CutTree}
use Rattle.cut_tree.proofs.laws.RuleTree.{rule_tree}
use Rattle.cut_tree.proofs.laws.CutTreeLaws.{placed_cut_tree}

-- THE RULE MAKES A CUT TREE
pub rule_cut_tree : (net : Network) → WithinLimits net → CutTree net (rule net).tree
rule_cut_tree net w = placed_cut_tree net w (rule net).tree (rule_tree net w.fits)
