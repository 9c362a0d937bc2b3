-- Opening, by what the file reads as; writing, by what writing the network gives.
use Rattle.std.proofs.Common.{◌≡◌, refl, ◌≢◌, true, false, ℕ, zero, suc, List, length, Result, Ok, Err, sym, ap, ◌∙◌}
use Rattle.base.specs.Checks.{accepted}
use Rattle.network.specs.declared.refusals.Refusal.{Refusal}
use Rattle.network_file.specs.Reading.{read_file}
use Rattle.network_file.specs.Results.{as_written as file_written}
use Rattle.network_file.specs.Writing.{file_of, file_write_number, file_write_of, file_written_to}
use Rattle.network_file.specs.Reading.{Reading}
use Rattle.network_file.specs.Writing.{FileWritten}
use Rattle.plan.specs.Plan.{no_plan, sound}
use Rattle.plan.specs.Calls.{fresh, opened, open_of, write_number, write_of, written_to}
use Rattle.base.proofs.laws.ChecksLaws.{refused_by}
use Rattle.plan.specs.declared.Plan.{Plan}
use Rattle.plan.specs.Calls.{Written}
use Rattle.plan.specs.Results.{as_written}
use Rattle.network.proofs.laws.RefusalLaws.{refusal_some}
use Rattle.plan.proofs.laws.SoundFacts.{sound_network}

-- ---- opening
module _ (file : List ℕ) (r : Reading) (e : r ≡ read_file file) where
  pub open_refused : r.number ≢ 0 → open_of file ≡ record { number = r.number; place = r.place; plan = no_plan }
  unfolding open_of
  open_refused n =
      sym (ap opened e) ∙ refused_by r.number (record { number = 0; place = 0; plan = fresh r.network }) (λ x. record {
        number = x;
        place = r.place;
        plan = no_plan;
      }) n

  module _ (z : r.number ≡ 0) where
    pub open_accepted : open_of file ≡ record { number = 0; place = 0; plan = fresh r.network }
    unfolding open_of
    open_accepted = sym (ap opened e) ∙ rw z

-- ---- writing: 19 comes before the row of writing the network
abbrev reply : FileWritten → Written
reply w = record { number = w.number; length = w.length }

by_reply : (e : ℕ) (x : FileWritten) (f : ℕ → FileWritten)
    → reply (accepted e x f) ≡ accepted e (reply x) (λ n. reply (f n))
by_reply zero x f = refl
by_reply (suc e) x f = refl

module _ (p : Plan) where
  module _ (e : sound p ≡ false) where
    pub write_unsound : (size : ℕ) → write_of p size ≡ record { number = 19; length = 0 }
    unfolding write_of write_number
    write_unsound size = rw e

    pub left_unsound : (buffer : List ℕ) → written_to p buffer ≡ buffer
    unfolding written_to write_number
    left_unsound buffer = rw e

  module _ (e : sound p ≡ true) where
    pub write_reply : (size : ℕ) (w : FileWritten) → w ≡ file_write_of p.network size → write_of p size ≡ record {
      number = w.number;
      length = w.length;
    }
    unfolding write_of write_number file_write_of
    write_reply size w q =
        rw (q, e)
        (sym (by_reply (file_write_number p.network size) (record { number = 0; length = length (file_of p.network) })
        (λ x. record { number = x; length = 0 })))

    pub left_written : (buffer : List ℕ) → written_to p buffer ≡ file_written_to p.network buffer
    unfolding written_to write_number file_written_to
    left_written buffer = rw e

-- the code's result of writing the network
pub as_reply : (r : Result ℕ Refusal) → as_written r ≡ reply (file_written r)
as_reply (Ok size) = refl
as_reply (Err e) = refl

-- ---- what the code of each call needs
pub ruleset opening = (refusal_some, open_refused, open_accepted)

pub ruleset writing = (write_unsound, left_unsound, write_reply, left_written, as_reply, sound_network)
