-- "The network and its file" and rows 1 to 9 of "Checks by place": a file read into a network.
use Rattle.std.specs.Prelude.{ℕ, zero, suc, ◌+◌, not, ◌||◌, List, [], ◌∷◌, length, drop, set, ltb, eqb}
use Rattle.base.specs.Basics.{pick}
use Rattle.base.specs.Checks.{row, chain, accepted, check}
use Rattle.network.specs.Refusals.{bad_node_count, too_many_links, end_not_a_node, equal_ends, link_too_large}
use Rattle.network.specs.Refusals.{bytes_follow}
use Rattle.network.specs.Limits.{max_nodes, max_links, max_capacity, max_groups}
use Rattle.network.specs.Network.{no_network, blank_network}
use Rattle.network.specs.declared.Network.{Network}
use Rattle.network_file.specs.Number.{read_groups, refusal_in, value_in, size_in}

-- ---- a file's own limits: reading is a definition over them
-- the groups of a number, and a link's capacity, at most
pub record FileLimits : Type 0 where
  pub groups : ℕ
  pub capacity : ℕ

abbrev pub present : FileLimits
present = record { groups = max_groups; capacity = max_capacity }

-- ---- what each part of a file reads as, with its refusal number, or 0
-- a number taken from the file: its value and the place behind it; refused, its own place
pub record Taken : Type 0 where
  pub number : ℕ
  pub value : ℕ
  pub next : ℕ

-- a link that was read: the place behind it, its ends and capacity; refused, the place of the faulty number
pub record Link : Type 0 where
  pub number : ℕ
  pub place : ℕ
  pub a : ℕ
  pub b : ℕ
  pub capacity : ℕ

-- how far a file has been read: the place where reading goes on and the network so far; refused, its place and no
-- network
pub record Progress : Type 0 where
  pub number : ℕ
  pub place : ℕ
  pub network : Network

-- a file: number and place of the first fault beside a network of all zeros; or 0, 0 and the network
pub record Reading : Type 0 where
  pub number : ℕ
  pub place : ℕ
  pub network : Network

-- ---- a number
-- the rows of n and m
abbrev pub nodes_row : ℕ → ℕ
nodes_row n = chain (row (eqb n 0 || ltb max_nodes n) bad_node_count ∷ [])

abbrev pub links_row : ℕ → ℕ
links_row m = chain (row (ltb max_links m) too_many_links ∷ [])

-- the rows of a, b and c
abbrev pub end_row : ℕ → ℕ → ℕ
end_row n a = chain (row (not (ltb a n)) end_not_a_node ∷ [])

abbrev pub other_end_row : ℕ → ℕ → ℕ → ℕ
other_end_row n a b = chain (row (not (ltb b n)) end_not_a_node ∷ row (eqb b a) equal_ends ∷ [])

abbrev pub capacity_row : ℕ → ℕ → ℕ
capacity_row highest c = chain (row (ltb highest c) link_too_large ∷ [])

abbrev pub no_number : ℕ → ℕ → Taken
no_number e place = record { number = e; value = 0; next = place }

abbrev pub a_number : ℕ → ℕ → Taken
a_number v next = record { number = 0; value = v; next = next }

-- the number in what is left of the file, in at most this many groups: 1 to 3, then its row; its value, and the place
-- behind it
unfoldable pub taken : ℕ → List ℕ → ℕ → (ℕ → ℕ) → Taken
taken groups s place row =
    let r = read_groups groups (drop place s) in
    accepted (check (ltb 0 (refusal_in r)) (refusal_in r) (row (value_in r)))
    (a_number (value_in r) (place + size_in r))
    (λ e. no_number e place)

-- a number, and on with its value and the next place; or a stop with its refusal number and its place
abbrev pub taking : {A : Type 0} → ℕ → List ℕ → ℕ → (ℕ → ℕ) → (ℕ → ℕ → A) → (ℕ → ℕ → A) → A
taking groups s place row stop next =
    let t = taken groups s place row in accepted t.number (next t.value t.next) (λ e. stop e place)

-- ---- a link
abbrev pub no_link : ℕ → ℕ → Link
no_link e place = record { number = e; place = place; a = 0; b = 0; capacity = 0 }

-- the link at a place of the file of a network of n nodes; its third number passes the row `third`
unfoldable pub link_at : ℕ → (ℕ → ℕ) → List ℕ → ℕ → ℕ → Link
link_at groups third s place n =
    taking groups s place (end_row n) no_link λ a place₁.
    taking groups s place₁ (other_end_row n a) no_link λ b place₂.
    taking groups s place₂ third no_link λ c place₃.
    record { number = 0; place = place₃; a = a; b = b; capacity = c }

-- ---- the file
abbrev pub stopped : ℕ → ℕ → Progress
stopped e place = record { number = e; place = place; network = no_network }

abbrev pub going : ℕ → Network → Progress
going place net = record { number = 0; place = place; network = net }

-- a network of n nodes whose m links are not read yet
abbrev pub unread : ℕ → ℕ → Network
unread n m = blank_network n m

abbrev pub with_link : Network → ℕ → ℕ → ℕ → ℕ → Network
with_link net k a b c =
    record {
      nodes = net.nodes;
      links = net.links;
      a = set net.a k a;
      b = set net.b k b;
      capacity = set net.capacity k c;
    }

unfoldable pub read_link : ℕ → (ℕ → ℕ) → List ℕ → ℕ → ℕ → Network → Progress
read_link groups third s k place net =
    let l = link_at groups third s place net.nodes in
    accepted l.number (going l.place (with_link net k l.a l.b l.capacity)) (λ e. stopped e l.place)

-- what was read, if it was not refused, and on
abbrev pub after : Progress → (ℕ → Network → Progress) → Progress
after r next = accepted r.number (next r.place r.network) (λ e. r)

-- links 0 to k - 1
unfoldable pub read_links : ℕ → (ℕ → ℕ) → List ℕ → ℕ → Progress → Progress
read_links groups third s zero r = r
read_links groups third s (suc k) r = after (read_links groups third s k r) (read_link groups third s k)

-- row 9: bytes follow
abbrev pub ended : List ℕ → ℕ → Network → Progress
ended s place net = pick (ltb place (length s)) (stopped bytes_follow place) (going place net)

unfoldable pub read_all : ℕ → (ℕ → ℕ) → List ℕ → Progress
read_all groups third s =
    taking groups s 0 nodes_row stopped λ n place₁.
    taking groups s place₁ links_row stopped λ m place₂.
    after (read_links groups third s m (going place₂ (unread n m))) (ended s)

-- the reply: a place only beside a refusal
abbrev pub read_by : ℕ → (ℕ → ℕ) → List ℕ → Reading
read_by groups third s =
    let r = read_all groups third s in
    record { number = r.number; place = accepted r.number 0 (λ e. r.place); network = r.network }

-- a file within these limits: the third number of a link is its capacity
abbrev pub read_within : FileLimits → List ℕ → Reading
read_within limits s = read_by limits.groups (capacity_row limits.capacity) s

unfoldable pub read_file : List ℕ → Reading
read_file s = read_within present s
