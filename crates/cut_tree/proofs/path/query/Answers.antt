-- `cut_tree::path::query` meets its contract: the refusal of its checks, or the answer.
use Rattle.std.proofs.Common.{◌<◌, refl, arith}
use Rattle.network.specs.Limits.{max_nodes}
use Rattle.cut_tree.proofs.laws.QueryLaws.{query_nodes, query_err, answered}
use Rattle.cut_tree.proofs.laws.PathLaws.{lightest_node}
use Rattle.cut_tree.proofs.path.query.Goals as goal
use Rattle.cut_tree.proofs.path.query.Goals.{After-side_of-side}

pub returns-in_err-check_pair : goal.returns-in_err-check_pair
returns-in_err-check_pair c = query_err _ _ _ _ _ _ c.in_err-check_pair.ensures c.from_residual.ensures.1

-- what is found is a node
found : (c : After-side_of-side) → c.lightest_on-node.result < max_nodes
found c =
    let a = c.args in
    let (sl, tl, d) = query_nodes a.n a.s a.t 0 c.in_ok-check_pair.ensures refl in
    let below = lightest_node a.n a.tree c.requires a.s a.t sl tl d in
    let few = c.requires.small in
    omega (arith, c.lightest_on-node.ensures, below.1, few)

pub offset_bounds-tree-node : goal.offset_bounds-tree-node
offset_bounds-tree-node c = omega (arith, found c)

pub bounds-tree-node : goal.bounds-tree-node
bounds-tree-node c = found c

pub returns : goal.returns
returns c =
    answered c.args.tree _ _ _ 0 c.in_ok-check_pair.ensures refl
    _ _ _ c.lightest_on-node.ensures c.side_of-side.ensures c.size.ensures
