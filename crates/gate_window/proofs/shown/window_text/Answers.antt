-- `gate_window::shown::window_text` meets its contract: one law for each way through it.
use Rattle.std.proofs.Common.{ap, ◌∙◌, drop, to_z-of_z}
use Rattle.text.specs.Text.{text_of}
use Rattle.gate_window.proofs.laws.ShownLaws.{shown_low, shown_high, shown_number}
use Rattle.gate_window.proofs.shown.window_text.Goals as goal

pub returns-then-headroom-lt-LOWEST_SHOWN : goal.returns-then-headroom-lt-LOWEST_SHOWN
returns-then-headroom-lt-LOWEST_SHOWN c = shown_low c.args.headroom c.ranges.headroom c.if-headroom-lt-LOWEST_SHOWN.true

pub returns-then-headroom-gt-HIGHEST_SHOWN : goal.returns-then-headroom-gt-HIGHEST_SHOWN
returns-then-headroom-gt-HIGHEST_SHOWN c =
    shown_high c.args.headroom c.ranges.headroom c.if-headroom-lt-LOWEST_SHOWN.false c.if-headroom-gt-HIGHEST_SHOWN.true

pub returns : goal.returns
returns c =
    c.last_four.ensures ∙ ap (drop 8) (c.tenths.ensures ∙ ap text_of (to_z-of_z c.ranges.headroom))
    ∙ shown_number c.args.headroom c.ranges.headroom c.if-headroom-lt-LOWEST_SHOWN.false
    c.if-headroom-gt-HIGHEST_SHOWN.false
