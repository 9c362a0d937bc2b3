-- `timing::pamzolit_timing` meets its contract, for a refused file and for an accepted one.
use Rattle.std.proofs.Common.{refl}
use Rattle.network.proofs.laws.RefusalLaws.{refusal_some}
use Rattle.timing.proofs.laws.TimingLaws.{timed_refused, timed_accepted}
use Rattle.timing.proofs.pamzolit_timing.Goals as goal

pub returns-in-Ok : goal.returns-in-Ok
returns-in-Ok c = timed_accepted c.args.file.now c.in-Ok.ensures refl c.args.rounds c.weight_after.ensures

pub returns-in-Err : goal.returns-in-Err
returns-in-Err c = timed_refused c.args.file.now c.in-Err.ensures (refusal_some c.in-Err.field-0.refusal) c.args.rounds
