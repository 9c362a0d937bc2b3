-- What is shown of files. Demand 2: a network has one file, and reading and writing undo each other. Demand 1, numbers
-- 1 to 9: each is given under its condition and no other, with its place. So many bytes of a file are enough. And files
-- accepted within the earlier limits are read as before.
use Rattle.std.specs.Prelude.{ℕ, ◌≤◌, ◌<◌, ◌≡◌, ◌≢◌, ◌↔◌, List, length, take}
use Rattle.base.specs.Basics.{at}
use Rattle.network.specs.Network.{WithinLimits, no_network}
use Rattle.network.specs.declared.Network.{Network}
use Rattle.network_file.specs.Number.{Bytes}
use Rattle.network_file.specs.Reading.{FileLimits, read_within, read_file}
use Rattle.network_file.specs.Writing.{file_in, file_of, max_file, max_read, largest}
use Rattle.network_file.specs.Faults.{Fault}

-- the file of some network within the limits
pub record IsFile (s : List ℕ) : Type 0 where
  pub network : Network
  pub within : WithinLimits network
  pub file : file_of network ≡ s

pub record OneFile : Type 0 where
  -- written, then read
  pub read_back : (net : Network) → WithinLimits net → read_file (file_of net) ≡ record {
    number = 0;
    place = 0;
    network = net;
  }
  -- read, then written
  pub written_back : (s : List ℕ) → Bytes s → (read_file s).number ≡ 0 → file_of (read_file s).network ≡ s
  -- the accepted files are those of networks within the limits, and each is one network's
  pub accepted : (s : List ℕ) → Bytes s → (read_file s).number ≡ 0 ↔ IsFile s
  pub one_network : (net other : Network) → WithinLimits net → WithinLimits other → file_of net ≡ file_of other
      → net ≡ other
  pub bytes : (net : Network) → WithinLimits net → Bytes (file_of net)
  -- the longest
  pub longest : (net : Network) → WithinLimits net → length (file_of net) ≤ max_file
  pub reached : WithinLimits largest × (length (file_of largest) ≡ max_file)

pub record Refusals : Type 0 where
  -- a file is refused with the number and the place of its fault, and so it has one fault at most
  pub given : (s : List ℕ) → (read_file s).number ≢ 0 → Fault s (read_file s).number (read_file s).place
  pub only : (s : List ℕ) (e place : ℕ) → Fault s e place → ((read_file s).number ≡ e) × ((read_file s).place ≡ place)
  pub numbers : (s : List ℕ) (e place : ℕ) → Fault s e place → (1 ≤ e) × (e ≤ 9)
  -- the network beside a refusal is all zeros, the place beside an acceptance is 0
  pub zeros : (s : List ℕ) → (read_file s).number ≢ 0 → (read_file s).network ≡ no_network
  pub no_place : (s : List ℕ) → (read_file s).number ≡ 0 → (read_file s).place ≡ 0

-- "At most 1,540 bytes are read"
pub record Front : Type 0 where
  -- the first bytes, one more than the longest file has, are read as the whole file is
  pub same : (s : List ℕ) → read_file (take max_read s) ≡ read_file s
  -- what is accepted is no longer than the longest file
  pub no_longer : (s : List ℕ) → (read_file s).number ≡ 0 → length s ≤ max_file

-- ---- "Files accepted so far are read as before": the limits before a capacity rose to 800 gigabits
abbrev pub earlier : FileLimits
earlier = record { groups = 3; capacity = 1000000 }

-- a network within them: all but the capacities had the present limits
pub record WithinEarlier (net : Network) : Type 0 where
  pub within : WithinLimits net
  pub low : (k : ℕ) → k < net.links → at net.capacity k ≤ earlier.capacity

pub record AsBefore : Type 0 where
  -- what the earlier limits accept is accepted, with the same network, which is within them
  pub read : (s : List ℕ) → (read_within earlier s).number ≡ 0 → read_file s ≡ read_within earlier s
  pub within : (s : List ℕ) → (read_within earlier s).number ≡ 0 → WithinEarlier (read_within earlier s).network
  -- a network within them has the same file,
  pub written : (net : Network) → WithinEarlier net → file_of net ≡ file_in earlier.groups net
  -- and within them it was read as that network
  pub read_back : (net : Network) → WithinEarlier net → read_within earlier (file_of net) ≡ record {
    number = 0;
    place = 0;
    network = net;
  }
