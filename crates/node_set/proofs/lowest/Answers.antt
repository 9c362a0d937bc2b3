-- `node_set::lowest` meets its contract.
use Rattle.std.proofs.Common.{ℕ, ◌≤◌, arith, w64, Fits}
use Rattle.std.proofs.lemmas.Nat.{trailing_le}
use Rattle.node_set.specs.Set.{width}
use Rattle.node_set.proofs.laws.SizeLaws.{lowest_is}
use Rattle.node_set.proofs.lowest.Goals as goal

fits : {v : ℕ} → v ≤ width → Fits w64 v
fits l = omega arith

pub overflow_cast-result : goal.overflow_cast-result
overflow_cast-result c = fits (trailing_le width _)

pub returns : goal.returns
returns c = lowest_is c.args.x c.requires c.ranges.x.fits
