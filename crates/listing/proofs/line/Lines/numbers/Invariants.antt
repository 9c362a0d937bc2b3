-- `numbers` meets its contract. What is still to be put is the numbers from one on, and the line feed.
use Rattle.std.proofs.Common.{◌≡◌, drop}
use Rattle.base.proofs.laws.PutsLaws.{Owing}
use Rattle.listing.specs.Listing.{decimals_of}
use Rattle.listing.proofs.line.Lines.numbers.Given as goal

abbrev pub invariant-loop-number : goal.invariant-loop-number
invariant-loop-number l =
    let before = l.initial.self in
    record {
      same : l.self.out.ghost_name ≡ before.out.ghost_name;
      owing : Owing before.out.now before.place (decimals_of l.numbers) l.self.place
          (decimals_of (drop l.number-index l.numbers)) l.self.out.now;
    }
