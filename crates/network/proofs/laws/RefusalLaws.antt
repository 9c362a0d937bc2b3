-- No refusal has the number of an accepted call.
use Rattle.std.specs.Prelude.{◌≢◌}
use Rattle.std.proofs.Common.{arith}
use Rattle.network.specs.Refusals.{refusal_number}
use Rattle.network.specs.declared.refusals.Refusal.{Refusal}

pub refusal_some : (e : Refusal) → refusal_number e ≢ 0
refusal_some e = grind arith
