-- A climb that goes on takes the edge of i.
use Rattle.std.proofs.Common.{sym, ◌∙◌}
use Rattle.cut_tree.proofs.laws.ClimbLaws.{climb_to_on}
use Rattle.cut_tree.proofs.laws.QueryLaws.{up_on}
use Rattle.cut_tree.proofs.rooted.RootedTree.+lightest_up.Goals as goal

pub returns : goal.returns
returns t c =
    let out = sym c.contains.ensures ∙ c.if-contains.false in
    up_on _ _ _ _ _ _ _ (climb_to_on _ _ _ _ c.if-i-eq0.false out c.if-left-eq0.false)
    c.lighter.ensures c.lightest_up.ensures
