-- "A flow has one signed number for each link, positive from a to b": lawful flows and their totals.
use Rattle.std.specs.Prelude.{ℕ, zero, suc, ◌≤◌, ◌<◌, ◌≡◌, ◌≢◌, Bool, true, false, eqb, ℤ, pos, nat_abs, ◌+ℤ◌, ◌-ℤ◌}
use Rattle.std.specs.Prelude.{◌≤ℤ◌}
use Rattle.min_cut.specs.Cut.{Net}

-- z at an end that is the node asked for
abbrev pub at_end : Bool → ℤ → ℤ
at_end true z = z
at_end false z = pos 0

-- what leaves node x by the first k links, less what enters it
unfoldable pub outflow : Net → (ℕ → ℤ) → ℕ → ℕ → ℤ
outflow G f x zero = pos 0
outflow G f x (suc k) = outflow G f x k +ℤ at_end (eqb (G.a k) x) (f k) -ℤ at_end (eqb (G.b k) x) (f k)

-- no number exceeds its link's capacity in size; at every node but s and t what comes in goes out
pub record Lawful (G : Net) (n s t : ℕ) (f : ℕ → ℤ) : Type 0 where
  pub within : (k : ℕ) → k < G.m → nat_abs (f k) ≤ G.c k
  pub conserved : (x : ℕ) → x < n → x ≢ s → x ≢ t → outflow G f x G.m ≡ pos 0

-- what leaves s less what enters s
unfoldable pub total : Net → (ℕ → ℤ) → ℕ → ℤ
total G f s = outflow G f s G.m

-- a lawful flow of total v, and no lawful flow has a larger total
pub record MaximumFlow (G : Net) (n s t v : ℕ) (f : ℕ → ℤ) : Type 0 where
  pub lawful : Lawful G n s t f
  pub value : total G f s ≡ pos v
  pub greatest : (g : ℕ → ℤ) → Lawful G n s t g → total G g s ≤ℤ pos v
