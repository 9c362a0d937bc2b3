-- The buffer is long enough, so there is a listing, and it lies within it.
use Rattle.std.proofs.Common.{◌≡◌, refl, ℕ, ◌≤◌, length, replicate, take, sym, ◌∙◌, arith}
use Rattle.std.proofs.lemmas.List.{length-replicate}
use Rattle.listing.specs.Listing.{max_listing}
use Rattle.listing.proofs.laws.ListedLaws.{listed_some, listed_counts}
use Rattle.pairs.proofs.main.Goals as goal
use Rattle.pairs.proofs.main.Goals.{After-unwrap-length}

pub unwrap-length-requires : goal.unwrap-length-requires
unwrap-length-requires c =
    let long = length-replicate {A = ℕ} max_listing 0 in
    rw (c.listing.ensures.value ∙ listed_some _ _ (omega arith)) refl

-- how much was listed lies within the buffer, and is what is taken of it
counts : (c : After-unwrap-length) → let n = c.unwrap-length.result in
    let out = c.listing.new.out in (n ≤ length out) × (n ≡ length (take n out))
counts c =
    let long = length-replicate {A = ℕ} max_listing 0 in
    let e = c.listing.ensures in
    listed_counts _ (replicate max_listing 0) (omega arith) (sym c.unwrap-length.ensures ∙ e.value) e.out_after

pub slice_bounds-out-end : goal.slice_bounds-out-end
slice_bounds-out-end c = (counts (goal.at.slice_bounds-out-end c).After-unwrap-length).0

pub slice_bounds-write_all-end : goal.slice_bounds-write_all-end
slice_bounds-write_all-end c = (counts (goal.at.slice_bounds-write_all-end c).After-unwrap-length).1
