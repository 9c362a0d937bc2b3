-- `text::tenths` meets its contract.
use Rattle.std.specs.Prelude.{◌≡◌, refl, ◌/◌, ◌≤◌, ◌^◌, ℕ, Bool, ℤ, pos, negsuc, nat_abs}
use Rattle.std.proofs.Common.{sym, ap, ap₂, ◌∙◌, to_z-of_z, arith}
use Rattle.std.proofs.Math.Dec.{leb-suc-zero}
use Rattle.std.proofs.lemmas.Fmt.{length-decimal-le}
use Rattle.std.specs.Int.Signed.{lt_z}
use Rattle.text.specs.Text.{text_of}
use Rattle.text.specs.code.Columns.{is_negative, tenths_from}
use Rattle.text.proofs.laws.PlacedLaws.{sign_room, still_blank, spare_filled, short_filled}
use Rattle.text.proofs.laws.TextLaws.{tenths_text}
use Rattle.text.proofs.tenths.Goals as goal

same_sign : (z : ℤ) → lt_z z (pos 0) ≡ is_negative z
same_sign (pos n) = leb-suc-zero n
same_sign (negsuc n) = refl

text_is : {m : ℕ} {b : Bool} (z : ℤ) → m ≡ nat_abs z → m ≤ 2 ^ 31 → lt_z z (pos 0) ≡ b → tenths_from m b ≡ text_of z
text_is z e l h = ap₂ tenths_from e (sym h ∙ same_sign z) ∙ tenths_text z (rw (sym e) l)

pub write_digits-start-requires : goal.write_digits-start-requires
write_digits-start-requires c =
    let m = c.magnitude-m in
    omega (arith, length-decimal-le 10 (m.result / 10) (omega arith) (omega arith) (omega (arith, m.ensures.most)))

pub overflow_sub-out : goal.overflow_sub-out
overflow_sub-out c =
    let w = c.write_digits-start in
    let m = c.magnitude-m in
    sign_room m.result w.result m.ensures.most w.ensures.start

pub returns-then-z-lt0 : goal.returns-then-z-lt0
returns-then-z-lt0 c =
    let w = c.write_digits-start in
    let m = c.magnitude-m in
    short_filled m.result w.result w.new.buf m.ensures.most w.ensures.start w.ensures.written
    (still_blank m.result w.result w.new.buf (grind arith) w.ensures.before)
    ∙ text_is _ m.ensures.value m.ensures.most c.if-z-lt0.true ∙ ap text_of (to_z-of_z c.ranges.z)

pub returns-else-z-lt0 : goal.returns-else-z-lt0
returns-else-z-lt0 c =
    let w = c.write_digits-start in
    let m = c.magnitude-m in
    spare_filled m.result w.result w.new.buf m.ensures.most w.ensures.start w.ensures.written
    (still_blank m.result w.result w.new.buf (grind arith) w.ensures.before)
    ∙ text_is _ m.ensures.value m.ensures.most c.if-z-lt0.false ∙ ap text_of (to_z-of_z c.ranges.z)
