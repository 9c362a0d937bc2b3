-- `network::blank::blank_from` meets its contract.
use Rattle.std.proofs.Common.{eqb, rules, ◌∙◌, tests}
use Rattle.std.proofs.lemmas.Iterator.{YieldsList-from_slice}
use Rattle.std.proofs.lemmas.Iterator.Adapters.{YieldsList-from_skip}
use Rattle.std.proofs.lemmas.Iterator.Search.{all_from_yields_List}
use Rattle.network.proofs.laws.BlankWords.{blank_skipped}
use Rattle.network.proofs.blank.blank_from.Goals as goal

pub returns : goal.returns
returns g c =
    all_from_yields_List (λ x. eqb (g.T.Word.value x) 0) _ _ _ c.all.ensures.ran
    (YieldsList-from_skip c.args.n (YieldsList-from_slice c.args.xs.now cc) cc)
    (λ x b q k. search (rules, tests))
    ∙ blank_skipped g.T.Word.value c.args.n c.args.xs.now
