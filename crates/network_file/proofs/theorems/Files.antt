-- What holds of the definitions of specs/Files.antt.
use Rattle.std.proofs.Common.{ap, subst, ◌∙◌, arith}
use Rattle.network.specs.Network.{WithinLimits}
use Rattle.network_file.specs.Reading.{Reading, present, read_within, read_file}
use Rattle.network_file.specs.Writing.{file_of}
use Rattle.network_file.proofs.laws.FileLaws.{accepts, written_back, accepted_place, refused_network, round_trip}
use Rattle.network_file.proofs.laws.FileLaws.{file_of_injective, written_accepted, round_trip_within}
use Rattle.network_file.proofs.laws.FaultLaws.{fault_given, fault_only, fault_number}
use Rattle.network_file.proofs.laws.FrontLaws.{read_front, accepted_length}
use Rattle.network_file.proofs.laws.LengthLaws.{file_most, file_bytes, largest_within, largest_longest}
use Rattle.network_file.specs.Files.{Front, OneFile, Refusals, AsBefore, earlier}
use Rattle.network_file.proofs.laws.RoundTrip.{Roomy}
use Rattle.network_file.proofs.laws.WiderLaws.{Wider, accepted_wider, same_file}
use Rattle.network_file.proofs.laws.LowLaws.{accepted_low}

pub one_file : OneFile
one_file =
    record {
      read_back = round_trip;
      written_back = written_back;
      accepted = λ s b. (
        λ e. record { network = (read_file s).network; within = accepts s e; file = written_back s b e },
        λ f. written_accepted f.network s f.within f.file,
      );
      one_network = file_of_injective;
      bytes = λ net w. file_bytes net w.fits;
      longest = λ net w. file_most net w.fits;
      reached = (largest_within, largest_longest);
    }

pub refusals : Refusals
refusals =
    record {
      given = fault_given;
      only = fault_only;
      numbers = λ s e place f. fault_number f;
      zeros = refused_network;
      no_place = accepted_place;
    }

pub front : Front
front = record { same = read_front; no_longer = accepted_length }

wider : Wider earlier present
wider = record { groups = omega arith; capacity = omega arith }

roomy : Roomy earlier
roomy = record { some = omega arith; nodes = omega arith; links = omega arith; capacity = omega arith }

pub as_before : AsBefore
unfolding read_file file_of
as_before =
    record {
      read = accepted_wider earlier present wider;
      within = λ s e.
          let same = accepted_wider earlier present wider s e in
          record {
            within = subst (λ (r : Reading). WithinLimits r.network) same (accepts s (ap (λ (r : Reading). r.number) same ∙ e));
            low = accepted_low earlier s e;
          };
      written = λ net e. same_file earlier present wider roomy net e.within e.low;
      read_back = λ net e.
          ap (read_within earlier) (same_file earlier present wider roomy net e.within e.low)
          ∙ round_trip_within earlier roomy net e.within e.low;
    }
