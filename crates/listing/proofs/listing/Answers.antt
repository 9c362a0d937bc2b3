-- `listing` meets its contract, in both of its ways.
use Rattle.std.proofs.Common.{ap, arith, length, rules}
use Rattle.listing.proofs.laws.ListedLaws.{too_short, listing_fits, listing_listed}
use Rattle.listing.specs.Listing.{listing_of}
use Rattle.base.specs.code.Puts.{Puts}
use Rattle.listing.proofs.listing.Goals as goal
use Rattle.listing.proofs.listing.Goals.{After-file}

pub returns-then-out-lt-MAX_LISTING : goal.returns-then-out-lt-MAX_LISTING
returns-then-out-lt-MAX_LISTING c =
    let both = too_short c.args.file.now c.args.out.now c.if-out-lt-MAX_LISTING.true in
    record { value = both.0; out_after = both.1 }

pub file-requires : goal.file-requires
file-requires c =
    let e = c.new-lines.ensures in
    omega (
      arith,
      listing_fits c.args.file.now c.args.out.now c.if-out-lt-MAX_LISTING.false,
      ap length e.out,
      e.place,
    )

-- the listing stands at the front of the buffer
stands : (c : After-file) → Puts c.args.out.now 0 (listing_of c.args.file.now) c.file.new.self.place c.file.new.self.out.now
stands c = let e = c.new-lines.ensures in rw (← e.out, ← e.place) c.file.ensures.puts

pub returns-clause-value : goal.returns-clause-value
returns-clause-value c =
    (listing_listed _ _ c.if-out-lt-MAX_LISTING.false (stands (goal.at.returns-clause-value c).After-file)).0

pub returns-clause-out_after : goal.returns-clause-out_after
returns-clause-out_after c =
    let file = (goal.at.returns-clause-out_after c).After-file in
    let after = (listing_listed _ _ c.if-out-lt-MAX_LISTING.false (stands file)).1 in
    search (rules, after)
