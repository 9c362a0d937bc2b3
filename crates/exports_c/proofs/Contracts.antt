-- The archive's contracts, as the prover has them, are those of the library's functions of the same names: each by
-- `refl`, so that one that is changed alone is refused here. That those are the promises of `exports`' specs is shown
-- in its proofs/Contracts.antt.
use Rattle.std.specs.Prelude.{◌≡◌, refl}
use seplogic.Ra.Ura.{Ura}
use types.Logic.{Logic}
use Rattle.exports.specs.contracts.pamzolit_listing as listing
use Rattle.exports.specs.contracts.pamzolit_open as «open»
use Rattle.exports.specs.contracts.pamzolit_change as change
use Rattle.exports.specs.contracts.pamzolit_undo as undo
use Rattle.exports.specs.contracts.pamzolit_pair as pair
use Rattle.exports.specs.contracts.pamzolit_preview as preview
use Rattle.exports.specs.contracts.pamzolit_headroom as headroom
use Rattle.exports.specs.contracts.pamzolit_flow as flow
use Rattle.exports.specs.contracts.pamzolit_write as write
use Rattle.exports.specs.contracts.pamzolit_reset as reset
use Rattle.exports.specs.contracts.pamzolit_reading as reading
use Rattle.exports_c.specs.contracts.pamzolit_listing as listing_c
use Rattle.exports_c.specs.contracts.pamzolit_open as open_c
use Rattle.exports_c.specs.contracts.pamzolit_change as change_c
use Rattle.exports_c.specs.contracts.pamzolit_undo as undo_c
use Rattle.exports_c.specs.contracts.pamzolit_pair as pair_c
use Rattle.exports_c.specs.contracts.pamzolit_preview as preview_c
use Rattle.exports_c.specs.contracts.pamzolit_headroom as headroom_c
use Rattle.exports_c.specs.contracts.pamzolit_flow as flow_c
use Rattle.exports_c.specs.contracts.pamzolit_write as write_c
use Rattle.exports_c.specs.contracts.pamzolit_reset as reset_c
use Rattle.exports_c.specs.contracts.pamzolit_reading as reading_c

module _ {M : Type 1} {𝓤 : Ura M} (𝓛 : Logic 𝓤) where
  same_listing : listing_c.clauses 𝓛 ≡ listing.clauses 𝓛
  same_listing = refl

  same_open : open_c.clauses 𝓛 ≡ «open».clauses 𝓛
  same_open = refl

  same_change : change_c.clauses 𝓛 ≡ change.clauses 𝓛
  same_change = refl

  same_undo : undo_c.clauses 𝓛 ≡ undo.clauses 𝓛
  same_undo = refl

  same_pair : pair_c.clauses 𝓛 ≡ pair.clauses 𝓛
  same_pair = refl

  same_preview : preview_c.clauses 𝓛 ≡ preview.clauses 𝓛
  same_preview = refl

  same_headroom : headroom_c.clauses 𝓛 ≡ headroom.clauses 𝓛
  same_headroom = refl

  same_flow : flow_c.clauses 𝓛 ≡ flow.clauses 𝓛
  same_flow = refl

  same_write : write_c.clauses 𝓛 ≡ write.clauses 𝓛
  same_write = refl

  same_reset : reset_c.clauses 𝓛 ≡ reset.clauses 𝓛
  same_reset = refl

  same_reading : reading_c.clauses 𝓛 ≡ reading.clauses 𝓛
  same_reading = refl
