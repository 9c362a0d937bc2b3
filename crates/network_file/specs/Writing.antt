-- The file of a network: n, m, then a, b, c for each link in order; and what writing it into a lent buffer gives.
use Rattle.std.specs.Prelude.{ℕ, zero, suc, ◌+◌, ◌-◌, ◌*◌, List, [], ◌∷◌, ◌++◌, length, replicate, ltb}
use Rattle.std.proofs.lemmas.List.Edits.{sets}
use Rattle.base.specs.Basics.{at}
use Rattle.base.specs.Checks.{row, chain, accepted}
use Rattle.network.specs.Refusals.{buffer_too_short}
use Rattle.network.specs.Limits.{max_nodes, max_links, max_capacity, max_groups}
use Rattle.network.specs.declared.Network.{Network}
use Rattle.network_file.specs.Number.{group_bytes, bytes_of}

-- what writing a file gives: its length; or a refusal number and 0
pub record FileWritten : Type 0 where
  pub number : ℕ
  pub length : ℕ

-- a link, its numbers in at most this many groups
abbrev pub bytes_of_link : ℕ → ℕ → ℕ → ℕ → List ℕ
bytes_of_link groups a b c = group_bytes groups a ++ (group_bytes groups b ++ group_bytes groups c)

-- links 0 to k - 1
unfoldable pub link_bytes : ℕ → Network → ℕ → List ℕ
link_bytes groups net zero = []
link_bytes groups net (suc k) =
    link_bytes groups net k ++ bytes_of_link groups (at net.a k) (at net.b k) (at net.capacity k)

abbrev pub file_in : ℕ → Network → List ℕ
file_in groups net =
    group_bytes groups net.nodes ++ (group_bytes groups net.links ++ link_bytes groups net net.links)

unfoldable pub file_of : Network → List ℕ
file_of net = file_in max_groups net

-- the longest link: two ends and a capacity, none of which has more bytes than the highest
abbrev pub max_link : ℕ
max_link = 2 * bytes_of (max_nodes - 1) + bytes_of max_capacity

-- "The longest file has 1,539 bytes", and a network that has it
abbrev pub max_file : ℕ
max_file = bytes_of max_nodes + bytes_of max_links + max_links * max_link

abbrev pub largest : Network
largest =
    record {
      nodes = max_nodes;
      links = max_links;
      a = replicate max_links 0;
      b = replicate max_links 1;
      capacity = replicate max_links max_capacity;
    }

-- so many bytes are read as the whole file is: one more shows that a file is too long
abbrev pub max_read : ℕ
max_read = max_file + 1

-- ---- "Writing fills the first bytes of a lent buffer, leaves the rest and gives the file's length": the reply, and
-- the buffer behind it
abbrev pub file_write_number : Network → ℕ → ℕ
file_write_number net size = chain (row (ltb size (length (file_of net))) buffer_too_short ∷ [])

unfoldable pub file_write_of : Network → ℕ → FileWritten
file_write_of net size =
    accepted (file_write_number net size) (record { number = 0; length = length (file_of net) })
    (λ e. record { number = e; length = 0 })

unfoldable pub file_written_to : Network → List ℕ → List ℕ
file_written_to net buffer = accepted (file_write_number net (length buffer))
    (sets buffer 0 (file_of net)) (λ e. buffer)
