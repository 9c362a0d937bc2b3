-- A climb that has come to v goes through it; the next node is known of as this one is.
use Rattle.std.proofs.Common.{sym, arith}
use Rattle.cut_tree.proofs.laws.ClimbLaws.{rooted_next}
use Rattle.cut_tree.proofs.laws.SideLaws.{through_here, known_next}
use Rattle.cut_tree.proofs.rooted.RootedTree.+climbs_through.Goals as goal

pub returns-then-j-v : goal.returns-then-j-v
returns-then-j-v t c = sym (through_here _ _ _ _ _ _ c.requires.1 c.if-j-eq0.false c.if-j-v.true)

pub climbs_through-requires : goal.climbs_through-requires
climbs_through-requires t c =
    let next = rooted_next c.args.self.now.climbs c.args.j c.requires.0 in
    (omega arith, (next, known_next _ _ _ _ _ _ c.requires.1 c.if-j-eq0.false c.if-left-eq0.false))
