-- No step is kept, so all cuts are worked out.
use Rattle.std.proofs.Common.{◌≡◌, refl, of_calls, None}
use Rattle.cut_tree.specs.Rule.{least_cut, rule}
use Rattle.cut_tree.proofs.trees.build.Goals as goal

pub returns : goal.returns
unfolding rule
returns c = c.worked_out.ensures (least_cut c.args.net.network) (λ s t r sl tl e. let f : r ≡ None = search of_calls in rw f refl)
