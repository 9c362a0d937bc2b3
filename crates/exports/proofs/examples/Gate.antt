-- A gate's record in its caller's memory: a reset, 1.1 megabits booked where 0.6 can run, a demand that is too large;
-- and the first reading among the calls on its plan.
use Rattle.std.specs.Prelude.{refl, [], ◌∷◌, pos, negsuc}
use Rattle.std.proofs.Common.{sym, ap, arith}
use Rattle.text.specs.Text.{digits}
use Rattle.plan.proofs.examples.Replies.{short, highest}
use Rattle.plan.proofs.examples.ResortA.{plan_a}
use Rattle.gate_window.specs.Shown.{window_text}
use Rattle.gate_window.proofs.examples.Evening.{half, refused, three}
use Rattle.gate_window.proofs.laws.ReadingLaws.{not_read_lem, is_read}
use Rattle.gate_window.specs.Reading.{Updated}
use Rattle.gate_window.specs.declared.Window.{Window}
use Rattle.exports.specs.Made.{pamzolit_reading, Promise, Held}
use Rattle.exports.specs.Lent.{pamzolit_reset, reading_from, InTurn}

-- "-0.5", of a record that counts none
pub short_read : Promise plan_a
    (pamzolit_reading 3 1 11 (three (pos 0) (pos 0) 0) 0 (three (negsuc 4) (negsuc 4) 1) half plan_a)
unfolding digits window_text
short_read =
    let e = is_read plan_a 3 1 11 _ (sym short) (three (pos 0) (pos 0) 0) refl (omega arith) in (
      ap (λ (u : Updated). u.reply.number) e,
      ap (λ (u : Updated). u.window) e,
      ap (λ (u : Updated). u.reply) e,
      refl,
    )

-- four spaces, and the record as it was
pub large_refused : Promise plan_a
    (pamzolit_reading 0 1 1000000001 (three (negsuc 4) (negsuc 4) 1) 17 (three (negsuc 4) (negsuc 4) 1) (refused 17)
    plan_a)
large_refused =
    let e = not_read_lem plan_a 0 1 1000000001 _ (sym highest.1) (three (negsuc 4) (negsuc 4) 1) (omega arith) in (
      ap (λ (u : Updated). u.reply.number) e,
      ap (λ (u : Updated). u.window) e,
      ap (λ (u : Updated). u.reply) e,
      refl,
    )

pub in_turn : (w : Window) → InTurn w (
    pamzolit_reset (three (pos 0) (pos 0) 0)
    ∷ reading_from plan_a 3 1 11 0 (three (negsuc 4) (negsuc 4) 1) half plan_a
    ∷ reading_from plan_a 0 1 1000000001 17 (three (negsuc 4) (negsuc 4) 1) (refused 17) plan_a
    ∷ [])
unfolding InTurn
in_turn w = (refl, (short_read, (large_refused, tt)))

pub on_the_plan : Held plan_a (
    pamzolit_reading 3 1 11 (three (pos 0) (pos 0) 0) 0 (three (negsuc 4) (negsuc 4) 1) half plan_a
    ∷ [])
unfolding Held
on_the_plan = (short_read, tt)
