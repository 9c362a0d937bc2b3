-- `gate_window::tally::after_reading` meets its contract: one law for each way through it.
use Rattle.std.proofs.Common.{ap, ◌∙◌, to_z-of_z, w32, rules}
use Rattle.base.proofs.laws.ResultLaws.{exit_of}
use Rattle.gate_window.specs.Reading.{read}
use Rattle.gate_window.specs.Results.{as_updated}
use Rattle.gate_window.proofs.laws.ReadingLaws.{refused_is, full_is, read_is}
use Rattle.gate_window.proofs.tally.after_reading.Goals as goal

pub returns-in_err-left : goal.returns-in_err-left
returns-in_err-left c =
    exit_of (as_updated _) _ _ _ c.from_residual.ensures.1 (refused_is _ _ _ _ _ _ c.in_err-left.ensures)

pub returns-then-w-ge-MAX_READINGS : goal.returns-then-w-ge-MAX_READINGS
returns-then-w-ge-MAX_READINGS c =
    full_is _ _ _ _ _ _ c.in_ok-left.ensures c.if-w-ge-MAX_READINGS.true

pub returns : goal.returns
returns c =
    let a = c.args in
    let left = c.in_ok-left.left in
    rw (c.noted-window.ensures, c.window_text-text.ensures)
    (ap (read a.w) (to_z-of_z {w = w32} {z = left.value} (search rules))
    ∙ read_is a.p a.s a.t a.demand a.w left c.in_ok-left.ensures c.if-w-ge-MAX_READINGS.false)
