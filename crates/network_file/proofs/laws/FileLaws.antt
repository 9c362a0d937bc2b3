-- What reading and writing say of each other: what is accepted is within the limits and is written back; what is written is read back.
use Rattle.std.specs.Prelude.{ℕ, ◌≤◌, ◌<◌, ◌≡◌, refl, ◌≢◌, true, List}
use Rattle.std.proofs.Common.{sym, ap, ◌∙◌, arith}
use Rattle.base.specs.Basics.{at}
use Rattle.network.specs.Network.{network_fits, WithinLimits, no_network}
use Rattle.network.proofs.laws.NetworkLaws.{capacity_le}
use Rattle.network.specs.declared.Network.{Network}
use Rattle.network_file.specs.Number.{Bytes}
use Rattle.network_file.specs.Reading.{FileLimits, present, read_within, read_file}
use Rattle.network_file.specs.Writing.{file_in, file_of}
use Rattle.network_file.proofs.laws.Told.{Told, is_refused, is_accepted, told}
use Rattle.network_file.proofs.laws.RoundTrip.{Roomy, all_read}
use Rattle.network_file.specs.Reading.{Progress}
use Rattle.network_file.specs.Reading.{Reading}

module _ {s : List ℕ} where
  within : {r : Progress} → Told s r → r.number ≡ 0 → WithinLimits r.network
  within (is_refused f) e = absurd (omega arith)
  within (is_accepted d p w b) e = w

  written : {r : Progress} → Told s r → Bytes s → r.number ≡ 0 → file_of r.network ≡ s
  written (is_refused f) b e = absurd (omega arith)
  written (is_accepted d p w h) b e = h b

  no_network_lem : {r : Progress} → Told s r → r.number ≢ 0 → r.network ≡ no_network
  no_network_lem (is_refused f) e = refl
  no_network_lem (is_accepted d p w b) e = absurd (e refl)

-- ---- an accepted file
pub accepts : (s : List ℕ) → (read_file s).number ≡ 0 → WithinLimits (read_file s).network
unfolding read_file
accepts s e = within (told s) e

-- so the network of an accepted file is one
pub accepted_fits : (s : List ℕ) (net : Network) → record { number = 0; place = 0; network = net } ≡ read_file s
    → network_fits net ≡ true
accepted_fits s net h =
    let fits : network_fits (read_file s).network ≡ true =
    (accepts s (sym (ap (λ (r : Reading). r.number) h))).fits in
    ap (λ (r : Reading). network_fits r.network) h ∙ fits

pub written_back : (s : List ℕ) → Bytes s → (read_file s).number ≡ 0 → file_of (read_file s).network ≡ s
unfolding read_file
written_back s b e = written (told s) b e

pub accepted_place : (s : List ℕ) → (read_file s).number ≡ 0 → (read_file s).place ≡ 0
unfolding read_file
accepted_place s e = rw e

-- ---- a refused file: the network beside it is all zeros
pub refused_network : (s : List ℕ) → (read_file s).number ≢ 0 → (read_file s).network ≡ no_network
unfolding read_file
refused_network s e = no_network_lem (told s) e

-- ---- a written file
pub round_trip_within : (limits : FileLimits) → Roomy limits → (net : Network) → WithinLimits net
    → ((k : ℕ) → k < net.links → at net.capacity k ≤ limits.capacity)
    → read_within limits (file_in limits.groups net) ≡ record { number = 0; place = 0; network = net }
round_trip_within limits roomy net w low = rw (all_read limits roomy net w low)

present_roomy : Roomy present
present_roomy = record { some = omega arith; nodes = omega arith; links = omega arith; capacity = omega arith }

pub round_trip : (net : Network) → WithinLimits net → read_file (file_of net) ≡ record { number = 0; place = 0; network = net }
unfolding read_file file_of
round_trip net w = round_trip_within present present_roomy net w (capacity_le net w.fits)

-- so a network has one file, and two networks within the limits never share one
pub file_of_injective : (net other : Network) → WithinLimits net → WithinLimits other → file_of net ≡ file_of other → net ≡ other
file_of_injective net other w v e =
    ap (λ (r : Reading). r.network) (sym (round_trip net w) ∙ ap read_file e ∙ round_trip other v)

pub written_accepted : (net : Network) (s : List ℕ) → WithinLimits net → file_of net ≡ s → (read_file s).number ≡ 0
written_accepted net s w e = ap (λ (r : Reading). r.number) (ap read_file (sym e) ∙ round_trip net w)
