-- Writing in the steps of the code: numbers and links, one behind the other.
use Rattle.std.specs.Prelude.{ℕ, zero, suc, ◌+◌, ◌≤◌, ◌<◌, ◌≡◌, List, [], ◌++◌, length}
use Rattle.std.proofs.Common.{refl, ap, ap₂, ◌∙◌, arith, lt-ltb, le-ltb, add-one, length-append}
use Rattle.std.proofs.lemmas.List.Edits.{sets}
use Rattle.std.proofs.Math.Decide.{ℕ_discrete}
use Rattle.std.specs.List.{sum_by}
use Rattle.base.specs.Basics.{at}
use Rattle.base.specs.Sum.{sum}
use Rattle.network.specs.Limits.{max_groups}
use Rattle.network.specs.code.Links.{IsLink}
use Rattle.network.specs.declared.Network.{Network}
use Rattle.network.specs.declared.link.Link.{Link}
use Rattle.network.proofs.laws.NetworkLaws.{nodes_le, links_le}
use Rattle.network.proofs.laws.EachLink.{links_of, sum_links}
use Rattle.network_file.specs.Number.{number_bytes}
use Rattle.network_file.specs.Writing.{bytes_of_link, link_bytes, file_of, file_write_of, file_written_to}
use Rattle.network_file.specs.Writing.{FileWritten}
use Rattle.network_file.specs.code.Writers.{HasRoom, Wrote}
use Rattle.network_file.specs.declared.writer.Writer.{Writer}
use Rattle.network_file.proofs.laws.LengthLaws.{file_most}
use Rattle.base.proofs.laws.ListLaws.{three_long}
use Rattle.base.proofs.laws.PutsLaws.{puts_length, puts_none, puts_then}

-- ---- the links
abbrev pub link_of : Network → ℕ → List ℕ
link_of net k = bytes_of_link max_groups (at net.a k) (at net.b k) (at net.capacity k)

module _ (net : Network) where
  -- a link by itself
  pub link_read : {k : ℕ} {l : Link} → IsLink net k l → bytes_of_link max_groups l.a l.b l.capacity ≡ link_of net k
  link_read h = rw h.same refl

  lengths : (k : ℕ) → sum k (λ i. length (link_of net i)) ≡ length (link_bytes max_groups net k)
  unfolding link_bytes sum
  lengths zero = refl
  lengths (suc k) = omega (arith, lengths k, length-append (link_bytes max_groups net k) (link_of net k))

  -- how many bytes the links have, added up
  pub links_length : sum_by (λ l. length (bytes_of_link max_groups l.a l.b l.capacity)) (links_of net)
      ≡ length (link_bytes max_groups net net.links)
  links_length = sum_links net (λ l. length (bytes_of_link max_groups l.a l.b l.capacity)) ∙ lengths net.links

  pub links_up : (m k : ℕ) → k < m → length (link_bytes max_groups net k) + length (link_of net k) ≤ length (link_bytes max_groups net m)
  unfolding link_bytes
  links_up zero k l = absurd (omega arith)
  links_up (suc m) k l = go (ℕ_discrete k m) (λ h. links_up m k h)
    where
      go : Dec (k ≡ m) → (k < m → length (link_bytes max_groups net k) + length (link_of net k) ≤ length (link_bytes max_groups net m))
          → length (link_bytes max_groups net k) + length (link_of net k) ≤ length (link_bytes max_groups net m ++ link_of net m)
      go (yes e) ih = rw e (omega (arith, length-append (link_bytes max_groups net m) (link_of net m)))
      go (no n) ih = omega (arith, ih (omega arith), length-append (link_bytes max_groups net m) (link_of net m))

-- ---- one run of bytes behind another
pub none_wrote : (w : Writer) → Wrote w w []
none_wrote w = record { same = refl; puts = puts_none w.out.now w.place }

pub wrote_more : {u v w : Writer} {xs ys : List ℕ} → Wrote u v xs → Wrote v w ys → Wrote u w (xs ++ ys)
wrote_more h g = record { same = g.same ∙ h.same; puts = puts_then h.puts g.puts }

-- the room of the later run is left behind the first
pub room_behind : {u v : Writer} {xs : List ℕ} (ys : List ℕ) → Wrote u v xs → HasRoom u (xs ++ ys) → HasRoom v ys
room_behind {xs = xs} ys h r = omega (arith, r, h.puts.next_is, puts_length h.puts, length-append xs ys)

pub room_first : (place size : ℕ) (xs ys : List ℕ) → place + length (xs ++ ys) ≤ size → place + length xs ≤ size
room_first place size xs ys r = omega (arith, r, length-append xs ys)

-- ---- the loop: k links are written
pub record LinksWritten (net : Network) (first now : Writer) (k : ℕ) : Type 0 where
  pub some : k ≤ net.links
  pub wrote : Wrote first now (link_bytes max_groups net k)

pub none_written : (net : Network) (w : Writer) → LinksWritten net w w 0
unfolding link_bytes
none_written net w = record { some = omega arith; wrote = none_wrote w }

module _ {net : Network} {first now : Writer} {k : ℕ} (h : LinksWritten net first now k) (l : k < net.links) where
  pub has_places : HasRoom first (link_bytes max_groups net net.links) → HasRoom now (link_of net k)
  has_places r = omega (arith, r, h.wrote.puts.next_is, puts_length h.wrote.puts, links_up net net.links k l)

  pub one_written : (behind : Writer) → Wrote now behind (link_of net k) → LinksWritten net first behind (k + 1)
  unfolding link_bytes
  one_written behind g = record { some = omega arith; wrote = rw add-one (wrote_more h.wrote g) }

-- ---- the file
abbrev written : ℕ → ℕ → FileWritten
written e size = record { number = e; length = size }

module _ (net : Network) where
  pub file_long : length (number_bytes net.nodes) + length (number_bytes net.links) + length (link_bytes max_groups net net.links)
      ≡ length (file_of net)
  unfolding file_of
  file_long = three_long (number_bytes net.nodes) (number_bytes net.links) (link_bytes max_groups net net.links)

  pub file_room : {size room : ℕ} → size ≡ length (file_of net) → size ≤ room
      → 0 + length (number_bytes net.nodes ++ (number_bytes net.links ++ link_bytes max_groups net net.links)) ≤ room
  unfolding file_of
  file_room e h = omega arith

  -- too short a buffer is refused and stays; any other holds the file
  pub refuses_short : (l : List ℕ) → length l < length (file_of net)
      → (written 18 0 ≡ file_write_of net (length l)) × (l ≡ file_written_to net l)
  unfolding file_write_of file_written_to
  refuses_short l h = rw (lt-ltb (length l) (length (file_of net)) h) (refl, refl)

  pub fills_front : (l : List ℕ) (size : ℕ) (w₀ w₁ w₂ w₃ : Writer) → size ≡ length (file_of net) → size ≤ length l
      → w₀.place ≡ 0 → w₀.out.now ≡ l → Wrote w₀ w₁ (number_bytes net.nodes) → Wrote w₁ w₂ (number_bytes net.links)
      → Wrote w₂ w₃ (link_bytes max_groups net net.links)
      → (written 0 size ≡ file_write_of net (length l)) × (w₃.out.now ≡ file_written_to net l) × (w₃.out.ghost_name ≡ w₀.out.ghost_name)
  unfolding file_write_of file_written_to file_of
  fills_front l size w₀ w₁ w₂ w₃ q h z e n m k =
      let all = wrote_more n (wrote_more m k) in
      let fits : length (file_of net) ≤ length l = omega arith in
      rw (le-ltb (length l) (length (file_of net)) fits) (
        ap (written 0) q,
        all.puts.after_is ∙ ap₂ (λ (l : List ℕ) (place : ℕ). sets l place (file_of net)) e z,
        all.same,
      )

-- what a file's length is, and within
pub ruleset file_limits = (nodes_le, links_le, file_most, file_long)
