-- What is shown of the window: of the record over every list, and of the four characters. Assumes nothing.
use Rattle.std.specs.Prelude.{◌≡◌, List, ℤ}
use Rattle.std.proofs.Common.{sym, ap, ◌∙◌}
use Rattle.gate_window.specs.Shown.{window_text}
use Rattle.gate_window.specs.Shows.{InWindow, tenths_in, Shows}
use Rattle.gate_window.specs.Run.{Event, Run, BeginsWithReset}
use Rattle.gate_window.specs.Claims.{Claims}
use Rattle.gate_window.proofs.laws.ShownLaws.{form}
use Rattle.gate_window.proofs.laws.ShowsLaws.{shows_by}
use Rattle.gate_window.proofs.laws.RunLaws.{begins}
use Rattle.gate_window.specs.declared.Window.{Window}

-- after any list of resets and readings that begins with a reset, whatever the record held before
pub window_claims : (w : Window) (es : List Event) → Run w es → BeginsWithReset es → Claims w es
window_claims w es run b = begins w es run b

-- of every headroom
pub window_shows : (z : ℤ) → Shows z
window_shows z = shows_by z (form z)

-- so no two from −9.9 to 99.9 show alike
pub one_value : (y z : ℤ) → InWindow y → InWindow z → window_text y ≡ window_text z → y ≡ z
one_value y z iy iz e = sym ((window_shows y).tells iy) ∙ ap tenths_in e ∙ (window_shows z).tells iz
