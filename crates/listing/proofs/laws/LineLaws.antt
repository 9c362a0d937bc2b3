-- A line while it is written: the turns of the loop over its numbers.
use Rattle.std.specs.Prelude.{ℕ, ◌+◌, ◌≤◌, ◌<◌, ◌≡◌, List, [], ◌∷◌, ◌++◌, length, drop}
use Rattle.std.proofs.Common.{ap, arith, add-one, drop_of_length-le, length-append, drop-cons}
use Rattle.base.specs.Basics.{at}
use Rattle.text.specs.Text.{decimal}
use Rattle.listing.specs.Listing.{decimals_of}
use Rattle.base.specs.code.Puts.{Puts}
use Rattle.base.proofs.laws.PutsLaws.{Owing, owing_same, owing_puts, owing_none}

-- ---- numbers
numbers_cons : (ns : List ℕ) (k : ℕ) → k < length ns → decimals_of (drop k ns) ≡ 32 ∷ (decimal (at ns k) ++ decimals_of (drop (k + 1) ns))
unfolding decimals_of
numbers_cons ns k b = rw (drop-cons ns k 0 b, add-one)

numbers_over : (ns : List ℕ) (k : ℕ) → length ns ≤ k → decimals_of (drop k ns) ≡ 10 ∷ []
unfolding decimals_of
numbers_over ns k b = rw (drop_of_length-le ns b)

module _ {l : List ℕ} {i : ℕ} (ns : List ℕ) {j : ℕ} (k : ℕ) {m : List ℕ}
    (h : Owing l i (decimals_of ns) j (decimals_of (drop k ns)) m) where
  -- there is room for the space and the number
  pub next_number_fits : k < length ns → j + 1 + length (decimal (at ns k)) ≤ i + length (decimals_of ns)
  next_number_fits b =
      omega (arith, h.ends, ap length (numbers_cons ns k b), length-append (decimal (at ns k)) (decimals_of (drop (k + 1) ns)))

  pub number_more : {q r : ℕ} {n o : List ℕ} → k < length ns → Puts m j (32 ∷ []) q n → Puts n q (decimal (at ns k)) r o
      → Owing l i (decimals_of ns) r (decimals_of (drop (k + 1) ns)) o
  number_more b p d = owing_puts (owing_puts (owing_same (numbers_cons ns k b) h) p) d

  -- there is room for the line feed
  pub line_feed_fits : length ns ≤ k → j + 1 ≤ i + length (decimals_of ns)
  line_feed_fits b = omega (arith, h.ends, ap length (numbers_over ns k b))

  pub numbers_end : {r : ℕ} {n : List ℕ} → length ns ≤ k → Puts m j (10 ∷ []) r n → Puts l i (decimals_of ns) r n
  numbers_end b p = owing_none (owing_puts (owing_same (numbers_over ns k b) h) p)
