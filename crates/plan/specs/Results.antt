-- What the calls' results are as replies, in the numbers of the table of checks: 0 for `Ok`, the refusal's number for
-- `Err`, and beside it what a refusal gives.
use Rattle.std.specs.Prelude.{ℕ, Result, Ok, Err}
use Rattle.network.specs.Refusals.{refusal_number}
use Rattle.network.specs.declared.refusals.Refusal.{Refusal}
use Rattle.network_file.specs.declared.Fault.{Fault}
use Rattle.cut_tree.specs.Path.{Found}
use Rattle.plan.specs.Calls.{Opening, Changed, PreviewReply, Written}
use Rattle.plan.specs.Calls.{not_opened, unaltered, no_preview, no_headroom, not_written}
use Rattle.plan.specs.declared.Altered.{Altered}
use Rattle.plan.specs.declared.HeadroomFound.{HeadroomFound}
use Rattle.plan.specs.declared.HeadroomReply.{HeadroomReply}
use Rattle.plan.specs.declared.Plan.{Plan}
use Rattle.plan.specs.declared.PreviewFound.{PreviewFound}

-- an opening
abbrev pub as_opening : Result Plan Fault → Opening
as_opening (Ok p) = record { number = 0; place = 0; plan = p }
as_opening (Err f) = not_opened f.place (refusal_number f.refusal)

-- a change or an undo of p: refused, it stays
abbrev pub as_changed : Plan → Result Altered Refusal → Changed
as_changed p (Ok x) = record { number = 0; count = x.count; plan = x.plan }
as_changed p (Err e) = unaltered p (refusal_number e)

abbrev pub as_preview : Result PreviewFound Refusal → PreviewReply
as_preview (Ok x) = record { answer = Found x.pair.weight x.pair.node x.pair.side x.pair.size; count = x.count }
as_preview (Err e) = no_preview (refusal_number e)

abbrev pub as_headroom : Result HeadroomFound Refusal → HeadroomReply
as_headroom (Ok x) = record { number = 0; value = x.value; text = x.text }
as_headroom (Err e) = no_headroom (refusal_number e)

-- the length of a file that was written
abbrev pub as_written : Result ℕ Refusal → Written
as_written (Ok size) = record { number = 0; length = size }
as_written (Err e) = not_written (refusal_number e)
