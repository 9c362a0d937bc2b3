-- What the listing of an accepted file shows: a cut tree of its network, and of every two nodes the value and one side
-- of a minimum cut. No line stands for a refused pair.
use Rattle.std.specs.Prelude.{ℕ, ◌<◌, ◌≡◌, List}
use Rattle.cut_tree.specs.Definition1.{CutTree}
use Rattle.cut_tree.specs.Answer.{MinimumAnswer}
use Rattle.plan.specs.Calls.{pair_of}
use Rattle.plan.specs.declared.Plan.{Plan}
use Rattle.listing.specs.Listing.{plan_lines}

pub record Shows (p : Plan) (lines : List ℕ) : Type 0 where
  pub of_plan : lines ≡ plan_lines p
  pub tree : CutTree p.network p.tree
  pub pairs : (s t : ℕ) → s < t → t < p.network.nodes → MinimumAnswer p.network s t (pair_of p s t)
