-- What holds of the definitions of specs/Shown.antt.
use Rattle.std.specs.Prelude.{ℕ, ◌<◌, ◌≡◌, List, []}
use Rattle.std.proofs.Common.{arith}
use Rattle.cut_tree.specs.Answer.{MinimumAnswer}
use Rattle.plan.specs.Calls.{open_of, pair_of}
use Rattle.history.specs.Run.{left}
use Rattle.history.proofs.theorems.Whole.{demand_3, opened_cut_tree}
use Rattle.listing.specs.Listing.{plan_lines, listing_of}
use Rattle.listing.specs.Shown.{Shows}

lines_are : (file : List ℕ) → (open_of file).number ≡ 0 → listing_of file ≡ plan_lines (open_of file).plan
unfolding listing_of
lines_are file e = rw e

minimum : (file : List ℕ) → (open_of file).number ≡ 0 → let p = (open_of file).plan in
    (s t : ℕ) → s < t → t < p.network.nodes → MinimumAnswer p.network s t (pair_of p s t)
unfolding left
minimum file e s t l b = ((demand_3 file e [] tt).pairs s t (omega arith) b (omega arith)).minimum

pub listing_shows : (file : List ℕ) → (open_of file).number ≡ 0 → Shows (open_of file).plan (listing_of file)
listing_shows file e = record { of_plan = lines_are file e; tree = opened_cut_tree file e; pairs = minimum file e }
