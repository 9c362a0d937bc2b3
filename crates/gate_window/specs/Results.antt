-- What a reading's result is as a reply, in the numbers of the table of checks.
use Rattle.std.specs.Prelude.{ℕ, List, Result, Ok, Err, replicate}
use Rattle.network.specs.Refusals.{refusal_number}
use Rattle.network.specs.declared.refusals.Refusal.{Refusal}
use Rattle.gate_window.specs.Shown.{window_width}
use Rattle.gate_window.specs.Reading.{not_read}
use Rattle.gate_window.specs.Reading.{Updated}
use Rattle.gate_window.specs.declared.Noted.{Noted}
use Rattle.gate_window.specs.declared.Window.{Window}
use Rattle.gate_window.specs.declared.WindowReply.{WindowReply}

-- what the window shows: four spaces beside a refusal
abbrev pub as_reply : Result (List ℕ) Refusal → WindowReply
as_reply (Ok text) = record { number = 0; text = text }
as_reply (Err e) = record { number = refusal_number e; text = replicate window_width 32 }

-- a reading of the record w: refused, it stays
abbrev pub as_updated : Window → Result Noted Refusal → Updated
as_updated w (Ok x) = record { window = x.window; reply = record { number = 0; text = x.text } }
as_updated w (Err e) = not_read w (refusal_number e)
