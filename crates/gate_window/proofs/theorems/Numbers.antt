-- What holds of the definitions of specs/Numbers.antt.
use Rattle.std.specs.Prelude.{ℕ, zero, suc, ◌≡◌, ◌≢◌, replicate}
use Rattle.std.proofs.Common.{refl, sym, ap, ◌∙◌, arith}
use Rattle.base.specs.Checks.{accepted}
use Rattle.base.specs.Conditions.{Numbered}
use Rattle.base.proofs.laws.ChecksLaws.{positive, numbered, number_kept, refused_by}
use Rattle.plan.specs.Calls.{headroom_of}
use Rattle.plan.specs.declared.Plan.{Plan}
use Rattle.gate_window.specs.Shown.{window_width}
use Rattle.gate_window.specs.Reading.{reading_number, read, not_read, reading_of}
use Rattle.gate_window.proofs.laws.ReadingLaws.{not_read_lem}
use Rattle.gate_window.specs.declared.Window.{Window}
use Rattle.gate_window.specs.Reading.{Updated}
use Rattle.gate_window.specs.Numbers.{reading_table}

module _ (p : Plan) (w : Window) (s t demand : ℕ) where
  abbrev e : ℕ
  e = reading_number p w.count s t demand

  pub reading_is : (reading_of p w s t demand).reply.number ≡ e
  unfolding reading_of
  reading_is = number_kept (λ (u : Updated). u.reply.number) e _ (not_read w) refl (λ n. refl)

  pub reading_numbered : Numbered (reading_table p w.count s t demand) (reading_of p w s t demand).reply.number
  unfolding reading_number positive
  reading_numbered = numbered (reading_table p w.count s t demand) reading_is refl

  -- refused: the three numbers as before, and four spaces
  pub reading_refused : (reading_of p w s t demand).reply.number ≢ 0
      → ((reading_of p w s t demand).window ≡ w) × ((reading_of p w s t demand).reply.text ≡ replicate window_width 32)
  unfolding reading_of
  reading_refused d =
      let is : reading_of p w s t demand ≡ not_read w e = refused_by e _ (not_read w) (rw reading_is at d) in
      (ap (λ (u : Updated). u.window) is, ap (λ (u : Updated). u.reply.text) is)

  -- accepted: the headroom, noted and shown
  pub reading_accepted : (reading_of p w s t demand).reply.number ≡ 0
      → reading_of p w s t demand ≡ read w (headroom_of p s t demand).value
  unfolding reading_of
  reading_accepted z =
      ap (λ (n : ℕ). accepted n (read w (headroom_of p s t demand).value) (not_read w)) (sym reading_is ∙ z)

  -- and it is the headroom of a call that the plan accepts
  pub reading_headroom : (reading_of p w s t demand).reply.number ≡ 0 → (headroom_of p s t demand).number ≡ 0
  reading_headroom z = go (headroom_of p s t demand).number refl
    where
      go : (e : ℕ) → (headroom_of p s t demand).number ≡ e → (headroom_of p s t demand).number ≡ 0
      go zero q = q
      go (suc e) q =
          let f = not_read_lem p s t demand (headroom_of p s t demand) refl w (λ n. omega (arith, n, q)) in
          ap (λ (u : Updated). u.reply.number) f ∙ z
