-- What survives has room for the fall.
use Rattle.std.proofs.Common.{sym, ◌∙◌, arith}
use Rattle.cut_tree.proofs.laws.TakingLaws.{survived_fits}
use Rattle.cut_tree.proofs.keep.Change.kept.Goals as goal

pub overflow_sub-result : goal.overflow_sub-result
overflow_sub-result c =
    let cut = c.args.step.cut in
    omega (arith, survived_fits c.args.self cut.side cut.value (sym c.survives.ensures ∙ c.if-not-survives.false))
