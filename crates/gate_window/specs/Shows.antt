-- What the window tells. From −9.9 to 99.9 the four characters tell the headroom, its sign too: no two show alike.
-- `LOW ` is shown below and nowhere else, `HIGH` above and nowhere else, and four spaces by no headroom.
use Rattle.std.specs.Prelude.{ℕ, ◌+◌, ◌-◌, ◌*◌, ◌≡◌, ◌≢◌, ◌↔◌, List, length, replicate, eqb, ℤ, pos, neg_ℤ, ◌≤ℤ◌, ◌<ℤ◌}
use Rattle.base.specs.Basics.{pick, at}
use Rattle.gate_window.specs.Shown.{window_width, lowest_shown, highest_shown, low, high, window_text}

-- a headroom of −9.9 to 99.9
pub record InWindow (z : ℤ) : Type 0 where
  pub from : lowest_shown ≤ℤ z
  pub to : z ≤ℤ highest_shown

-- the digit in a place; a space counts 0
abbrev pub digit_at : List ℕ → ℕ → ℕ
digit_at xs k = at xs k - 48

-- the tenths that a reader finds in four characters: one digit behind a minus, or one or two, then a point and a digit
unfoldable pub tenths_in : List ℕ → ℤ
tenths_in xs =
    let ones = 10 * digit_at xs 1 + digit_at xs 3 in
    pick (eqb (at xs 0) 45) (neg_ℤ (pos ones)) (pos (100 * digit_at xs 0 + ones))

pub record Shows (z : ℤ) : Type 0 where
  pub four : length (window_text z) ≡ window_width
  pub tells : InWindow z → tenths_in (window_text z) ≡ z
  pub minus : InWindow z → (at (window_text z) 0 ≡ 45) ↔ (z <ℤ pos 0)
  pub low_below : (window_text z ≡ low) ↔ (z <ℤ lowest_shown)
  pub high_above : (window_text z ≡ high) ↔ (highest_shown <ℤ z)
  pub no_blank : window_text z ≢ replicate window_width 32
