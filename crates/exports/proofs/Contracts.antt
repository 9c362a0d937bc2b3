-- The contracts of src/held.rt and src/window.rt, as the prover has them, are the promises of specs/Made.antt and
-- specs/Lent.antt: each by `refl`, so that one that is changed alone is refused here. `a` are the arguments, `ws` what
-- stands behind the `&mut` ones at exit, r is the result.
use Rattle.std.specs.Prelude.{ℕ, ◌≡◌, refl}
use seplogic.Ra.Ura.{Ura}
use base.Logic.{SProp}
use prog.Memory.{Memory}
use prog.Routine.{Routine}
use types.Logic.{Logic}
use contract.Lifetimes.{Lfts}
use contract.Monad.{Fun, fact}
use denote.Triple.Clauses.{Lasts, at_exit}
use denote.Triple.Entry.{Args}
use Rattle.exports.specs.Made.{pamzolit_change, pamzolit_undo, pamzolit_pair, pamzolit_preview, pamzolit_flow}
use Rattle.exports.specs.Made.{pamzolit_headroom, pamzolit_write, pamzolit_reading, Opened, Promise}
use Rattle.exports.specs.Lent.{pamzolit_reset, LentPromise}
use Rattle.exports.specs.contracts.held.pamzolit_open as «open»
use Rattle.exports.specs.contracts.held.pamzolit_change as change
use Rattle.exports.specs.contracts.held.pamzolit_undo as undo
use Rattle.exports.specs.contracts.held.pamzolit_pair as pair
use Rattle.exports.specs.contracts.held.pamzolit_preview as preview
use Rattle.exports.specs.contracts.held.pamzolit_headroom as headroom
use Rattle.exports.specs.contracts.held.pamzolit_flow as flow
use Rattle.exports.specs.contracts.held.pamzolit_write as write
use Rattle.exports.specs.contracts.window.pamzolit_reset as reset
use Rattle.exports.specs.contracts.window.pamzolit_reading as reading

module _ {M : Type 1} {𝓤 : Ura M} (𝓛 : Logic 𝓤) (at_mem : Memory → SProp 𝓤) (run : Routine → Fun 𝓤) where
  open_promises : (κs : Lfts («open».signature).lifetimes) (a : Args «open».signature κs)
      → (ws : Lasts «open».ended κs a) (r : ℕ)
      → («open».clauses 𝓛 at_mem run κs a).ensures tt r (at_exit «open».ended κs a ws)
      ≡ fact 𝓤 (Opened a.0.now r ws.1.1.0 ws.1.0)
  open_promises κs a ws r = refl

  change_promises : (κs : Lfts (change.signature).lifetimes) (a : Args change.signature κs)
      → (ws : Lasts change.ended κs a) (r : ℕ)
      → (change.clauses 𝓛 at_mem run κs a).ensures tt r (at_exit change.ended κs a ws)
      ≡ fact 𝓤 (Promise a.0.now (pamzolit_change a.1.0 a.1.1.0 r ws.1.1.1.0 ws.0))
  change_promises κs a ws r = refl

  undo_promises : (κs : Lfts (undo.signature).lifetimes) (a : Args undo.signature κs)
      → (ws : Lasts undo.ended κs a) (r : ℕ)
      → (undo.clauses 𝓛 at_mem run κs a).ensures tt r (at_exit undo.ended κs a ws)
      ≡ fact 𝓤 (Promise a.0.now (pamzolit_undo r ws.1.0 ws.0))
  undo_promises κs a ws r = refl

  -- what is lent as `&` is at exit what was passed
  pair_promises : (κs : Lfts (pair.signature).lifetimes) (a : Args pair.signature κs)
      → (ws : Lasts pair.ended κs a) (r : ℕ)
      → (pair.clauses 𝓛 at_mem run κs a).ensures tt r (at_exit pair.ended κs a ws)
      ≡ fact 𝓤 (Promise a.0.now (pamzolit_pair a.1.0 a.1.1.0 r ws.1.1.1.0 a.0.now))
  pair_promises κs a ws r = refl

  preview_promises : (κs : Lfts (preview.signature).lifetimes) (a : Args preview.signature κs)
      → (ws : Lasts preview.ended κs a) (r : ℕ)
      → (preview.clauses 𝓛 at_mem run κs a).ensures tt r (at_exit preview.ended κs a ws)
      ≡ fact 𝓤 (Promise a.0.now
      (pamzolit_preview a.1.0 a.1.1.0 a.1.1.1.0 a.1.1.1.1.0 r ws.1.1.1.1.1.0
      ws.1.1.1.1.1.1.0 a.0.now))
  preview_promises κs a ws r = refl

  headroom_promises : (κs : Lfts (headroom.signature).lifetimes) (a : Args headroom.signature κs)
      → (ws : Lasts headroom.ended κs a) (r : ℕ)
      → (headroom.clauses 𝓛 at_mem run κs a).ensures tt r (at_exit headroom.ended κs a ws)
      ≡ fact 𝓤 (Promise a.0.now
      (pamzolit_headroom a.1.0 a.1.1.0 a.1.1.1.0 r ws.1.1.1.1.0 a.0.now))
  headroom_promises κs a ws r = refl

  flow_promises : (κs : Lfts (flow.signature).lifetimes) (a : Args flow.signature κs)
      → (ws : Lasts flow.ended κs a) (r : ℕ)
      → (flow.clauses 𝓛 at_mem run κs a).ensures tt r (at_exit flow.ended κs a ws)
      ≡ fact 𝓤 (Promise a.0.now
      (pamzolit_flow a.1.0 a.1.1.0 a.1.1.1.0.now r ws.1.1.1.0 a.0.now))
  flow_promises κs a ws r = refl

  write_promises : (κs : Lfts (write.signature).lifetimes) (a : Args write.signature κs)
      → (ws : Lasts write.ended κs a) (r : ℕ)
      → (write.clauses 𝓛 at_mem run κs a).ensures tt r (at_exit write.ended κs a ws)
      ≡ fact 𝓤 (Promise a.0.now (pamzolit_write a.1.0.now r ws.1.1.0 ws.1.0 a.0.now))
  write_promises κs a ws r = refl

  -- a reset is of no plan
  reset_promises : (κs : Lfts (reset.signature).lifetimes) (a : Args reset.signature κs)
      → (ws : Lasts reset.ended κs a) (r : Unit {0})
      → (reset.clauses 𝓛 at_mem run κs a).ensures tt r (at_exit reset.ended κs a ws)
      ≡ fact 𝓤 (LentPromise a.0.now (pamzolit_reset ws.0))
  reset_promises κs a ws r = refl

  reading_promises : (κs : Lfts (reading.signature).lifetimes) (a : Args reading.signature κs)
      → (ws : Lasts reading.ended κs a) (r : ℕ)
      → (reading.clauses 𝓛 at_mem run κs a).ensures tt r (at_exit reading.ended κs a ws)
      ≡ fact 𝓤 (Promise a.1.0.now
      (pamzolit_reading a.1.1.0 a.1.1.1.0 a.1.1.1.1.0 a.0.now r ws.0 ws.1.1.1.1.1.0
      a.1.0.now))
  reading_promises κs a ws r = refl
