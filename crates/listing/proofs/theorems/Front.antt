-- "At most 1,540 bytes are read": the first 1,540 bytes of a file are listed as the whole file is, so the program need
-- not see more.
use Rattle.std.specs.Prelude.{ℕ, ◌≡◌, List, take}
use Rattle.network_file.specs.Writing.{max_read}
use Rattle.network_file.proofs.theorems.Files.{front}
use Rattle.plan.specs.Calls.{open_of}
use Rattle.listing.specs.Listing.{listing_of}

pub listing_front : (file : List ℕ) → listing_of (take max_read file) ≡ listing_of file
unfolding listing_of open_of
listing_front file = rw (front.same file)
