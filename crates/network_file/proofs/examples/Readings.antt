-- "Readings to check", those of files: a table, what it means that a row holds, and that all do. P8 to P12, and the
-- numbers beside their limits.
use Rattle.std.specs.Prelude.{ℕ, ◌≡◌, refl, Bool, true, ◌&&◌, List, [], ◌∷◌, take, eqb}
use Rattle.base.specs.Basics.{every, blank, blank_from, same}
use Rattle.network.specs.declared.Network.{Network}
use Rattle.network_file.specs.Number.{read_groups, group_bytes, bytes_of}
use Rattle.network_file.specs.Reading.{taken, link_at, read_link, read_links, read_all, read_within, read_file}
use Rattle.network_file.specs.Files.{earlier}
use Rattle.network_file.specs.Writing.{link_bytes, file_of, max_link, max_file, max_read}

pub data Case : Type 0 where
  -- a file that is refused: number and place
  refused : (file : List ℕ) (number place : ℕ) → Case
  -- a file that is accepted: its nodes, and its links' ends and capacities
  reads : (file : List ℕ) (nodes : ℕ) (a b capacity : List ℕ) → Case

abbrev pub zeros : Network → Bool
zeros net =
    every (eqb net.nodes 0 ∷ eqb net.links 0 ∷ blank net.a ∷ blank net.b ∷ blank net.capacity ∷ [])

-- the links, and 0 behind them
abbrev pub begins : List ℕ → ℕ → List ℕ → Bool
begins xs m expected = same (take m xs) expected && blank_from m xs

unfoldable pub holds : Case → Bool
holds (refused file number place) =
    let r = read_file file in
    every (eqb r.number number ∷ eqb r.place place ∷ zeros r.network ∷ [])
holds (reads file nodes a b capacity) =
    let r = read_file file in
    let net = r.network in
    every (
    eqb r.number 0
    ∷ eqb r.place 0
    ∷ eqb net.nodes nodes
    ∷ begins net.a net.links a
    ∷ begins net.b net.links b
    ∷ begins net.capacity net.links capacity
    ∷ same (file_of net) file
    ∷ [])

unfoldable pub all_hold : List Case → Bool
all_hold [] = true
all_hold (c ∷ cs) = holds c && all_hold cs

abbrev pub resort_a : List ℕ
resort_a =
    0x04 ∷ 0x05 ∷ 0x00 ∷ 0x01 ∷ 0x05 ∷ 0x01 ∷ 0x02 ∷ 0x03 ∷ 0x02 ∷ 0x03 ∷ 0x04 ∷ 0x00 ∷ 0x03 ∷ 0x02 ∷ 0x00 ∷ 0x02 ∷ 0x01
    ∷ []

unfoldable pub table : List Case
table =
    refused [] 1 0  -- P8
    ∷ refused (0x80 ∷ 0x80 ∷ 0x80 ∷ 0x80 ∷ []) 2 0  -- P9
    ∷ refused (0x02 ∷ 0x01 ∷ 0x00 ∷ 0x01 ∷ 0x80 ∷ 0x00 ∷ []) 3 4  -- P10
    ∷ refused (0x02 ∷ 0x01 ∷ 0x00 ∷ 0x00 ∷ 0x00 ∷ []) 7 3  -- P11
    ∷ refused (0x01 ∷ 0x00 ∷ 0x00 ∷ []) 9 2  -- P12
    ∷ reads resort_a 4 (0 ∷ 1 ∷ 2 ∷ 0 ∷ 0 ∷ []) (1 ∷ 2 ∷ 3 ∷ 3 ∷ 2 ∷ []) (5 ∷ 3 ∷ 4 ∷ 2 ∷ 1 ∷ [])
    -- capacity 1,000,000 and one more: both stand
    ∷ reads (0x02 ∷ 0x01 ∷ 0x00 ∷ 0x01 ∷ 0xC0 ∷ 0x84 ∷ 0x3D ∷ []) 2 (0 ∷ []) (1 ∷ []) (1000000 ∷ [])
    ∷ reads (0x02 ∷ 0x01 ∷ 0x00 ∷ 0x01 ∷ 0xC1 ∷ 0x84 ∷ 0x3D ∷ []) 2 (0 ∷ []) (1 ∷ []) (1000001 ∷ [])
    -- the lowest number of four groups, 2,097,152: no number of nodes, but a capacity
    ∷ refused (0x80 ∷ 0x80 ∷ 0x80 ∷ 0x01 ∷ []) 4 0
    ∷ reads (0x02 ∷ 0x01 ∷ 0x00 ∷ 0x01 ∷ 0x80 ∷ 0x80 ∷ 0x80 ∷ 0x01 ∷ []) 2 (0 ∷ []) (1 ∷ []) (2097152 ∷ [])
    -- capacity 8,000,000 and one more
    ∷ reads (0x02 ∷ 0x01 ∷ 0x00 ∷ 0x01 ∷ 0x80 ∷ 0xA4 ∷ 0xE8 ∷ 0x03 ∷ []) 2 (0 ∷ []) (1 ∷ []) (8000000 ∷ [])
    ∷ refused (0x02 ∷ 0x01 ∷ 0x00 ∷ 0x01 ∷ 0x81 ∷ 0xA4 ∷ 0xE8 ∷ 0x03 ∷ []) 8 4
    -- three bytes with the top bit set and no more
    ∷ refused (0x80 ∷ 0x80 ∷ 0x80 ∷ []) 1 0
    -- m 256 stands, so that the first link is looked for; 257 does not
    ∷ refused (0x01 ∷ 0x80 ∷ 0x02 ∷ []) 1 3
    ∷ refused (0x01 ∷ 0x81 ∷ 0x02 ∷ []) 5 1
    -- n 64 stands; 65 and 0 do not
    ∷ reads (0x40 ∷ 0x00 ∷ []) 64 [] [] []
    ∷ refused (0x41 ∷ 0x00 ∷ []) 4 0
    ∷ refused (0x00 ∷ 0x00 ∷ []) 4 0
    -- not the paper's: ends outside, a number cut short behind one, two and three bytes, a zero as third group and as
    -- fourth, a fifth byte, and what is met first
    ∷ refused (0x02 ∷ 0x01 ∷ 0x02 ∷ 0x80 ∷ []) 6 2
    ∷ refused (0x02 ∷ 0x01 ∷ 0x00 ∷ 0x02 ∷ []) 6 3
    ∷ refused (0x02 ∷ 0x01 ∷ 0x00 ∷ 0x80 ∷ []) 1 3
    ∷ refused (0x02 ∷ 0x01 ∷ 0x00 ∷ 0x01 ∷ 0xFF ∷ 0xFF ∷ []) 1 4
    ∷ refused (0x02 ∷ 0x01 ∷ 0x00 ∷ 0x01 ∷ 0xFF ∷ 0xFF ∷ 0xFF ∷ []) 1 4
    ∷ refused (0x02 ∷ 0x01 ∷ 0x00 ∷ 0x01 ∷ 0xFF ∷ 0x80 ∷ 0x00 ∷ []) 3 4
    ∷ refused (0x02 ∷ 0x01 ∷ 0x00 ∷ 0x01 ∷ 0xFF ∷ 0xFF ∷ 0xFF ∷ 0x00 ∷ []) 3 4
    ∷ refused (0x02 ∷ 0x01 ∷ 0x00 ∷ 0x01 ∷ 0xFF ∷ 0xFF ∷ 0xFF ∷ 0xFF ∷ 0x00 ∷ []) 2 4
    ∷ refused (0x80 ∷ 0x00 ∷ 0x81 ∷ 0x02 ∷ []) 3 0
    ∷ []

-- ---- the longest: one to four bytes for a number, six for a link, 1,539 for a file
sizes : (bytes_of 127 ≡ 1) × (bytes_of 128 ≡ 2) × (bytes_of 16383 ≡ 2) × (bytes_of 16384 ≡ 3) × (bytes_of 2097151 ≡ 3)
    × (bytes_of 2097152 ≡ 4)
sizes = (refl, refl, refl, refl, refl, refl)

longest : (max_link ≡ 6) × (max_file ≡ 1539) × (max_read ≡ 1540)
longest = (refl, refl, refl)

pub readings : all_hold table ≡ true
unfolding every blank read_groups group_bytes taken link_at read_link read_links read_all read_file
    link_bytes file_of same holds all_hold table
readings = refl

-- ---- within the earlier limits: three groups, and a capacity up to 1,000,000
abbrev link_of : List ℕ → List ℕ
link_of capacity = 0x02 ∷ 0x01 ∷ 0x00 ∷ 0x01 ∷ capacity

was_read : ((read_within earlier (link_of (0xC0 ∷ 0x84 ∷ 0x3D ∷ []))).number ≡ 0)
    × ((read_within earlier (link_of (0xC1 ∷ 0x84 ∷ 0x3D ∷ []))).number ≡ 8)
    × ((read_within earlier (link_of (0x80 ∷ 0x80 ∷ 0x80 ∷ 0x01 ∷ []))).number ≡ 2)
    × ((read_within earlier (0x80 ∷ 0x80 ∷ 0x80 ∷ [])).number ≡ 2)
unfolding read_groups taken link_at read_link read_links read_all
was_read = (refl, refl, refl, refl)
