-- The changed network is within the limits, and the tree worked out on it is the rebuilt one.
use Rattle.std.proofs.Common.{◌∙◌, of_calls}
use Rattle.network.proofs.laws.NetworkLaws.{link_places, change_fits}
use Rattle.cut_tree.proofs.laws.LoopLaws.{link_cuts, link_gives, link_rebuilt}
use Rattle.cut_tree.proofs.trees.rebuild.Goals as goal

pub invariant_of-change : goal.invariant_of-change
invariant_of-change c =
    let places = link_places c.args.net.network c.args.net.fits c.args.k c.requires.link in
    record { ends = rw (c.link.ensures.a, c.link.ensures.b) (places.1, places.2) }

pub invariant_of-worked_out : goal.invariant_of-worked_out
invariant_of-worked_out c = record {
  fits = change_fits c.args.net.network c.args.k c.args.d c.requires.link c.requires.capacity c.args.net.fits;
}

pub returns : goal.returns
returns c =
    let a = c.args in
    c.worked_out.ensures (link_cuts a.net.network a.steps a.k a.d)
    (λ s t r sl tl e. search (of_calls, link_gives))
    ∙ link_rebuilt a.net.network a.steps a.k a.d
