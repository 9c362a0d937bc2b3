-- The archive's contract, as the prover has it, is that of the library's function of the same name: by `refl`, so that
-- one that is changed alone is refused here.
use Rattle.std.specs.Prelude.{◌≡◌, refl}
use seplogic.Ra.Ura.{Ura}
use types.Logic.{Logic}
use Rattle.timing.specs.contracts.pamzolit_timing as timing
use Rattle.timing_c.specs.contracts.pamzolit_timing as timing_c

same_timing : {M : Type 1} {𝓤 : Ura M} (𝓛 : Logic 𝓤) → timing_c.clauses 𝓛 ≡ timing.clauses 𝓛
same_timing 𝓛 = refl
