-- The climb from s, then the climb from t: together the edges of the path.
use Rattle.std.proofs.Common.{◌≡◌, ap, None, Some, is_some}
use Rattle.cut_tree.specs.Path.{max_climb, lightest_on}
use Rattle.cut_tree.proofs.laws.QueryLaws.{lightest_on_lem, up_below}
use Rattle.cut_tree.proofs.rooted.RootedTree.lightest_on.Goals as goal
use Rattle.cut_tree.proofs.rooted.RootedTree.lightest_on.Goals.{After-lightest_up}

found : (c : After-lightest_up) → c.lightest_up.result ≡ Some (lightest_on c.args.self.now.tree.now c.args.s c.args.t)
found c =
    let a = c.args in
    let (from, to, apart) = c.requires in
    lightest_on_lem a.self.now.nodes a.self.now.tree.now a.self.now.climbs a.s a.t from to apart _ _ _ _ _ c.empty.ensures
    c.ancestors-above_s.ensures _ c.empty-2.ensures c.ancestors-above_t.ensures c.lightest_up-best.ensures c.lightest_up.ensures

pub lightest_up-requires : goal.lightest_up-requires
lightest_up-requires c =
    let a = c.args in
    let (from, to, apart) = c.requires in
    let rooted = a.self.now in
    let tree = rooted.tree.now in
    let stop = c.ancestors-above_t.result in
    let below = up_below rooted.nodes tree.parent rooted.climbs stop tree.weight max_climb a.s None from (λ v e. absurd (cc)) in
    (to, rw c.lightest_up-best.ensures below)

pub unwrap-requires : goal.unwrap-requires
unwrap-requires c = ap is_some (found c)

pub returns : goal.returns
returns c = let e = found (goal.at.returns c).After-lightest_up in cc
