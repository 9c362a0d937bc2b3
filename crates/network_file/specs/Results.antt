-- What the code's results are in the numbers of the table of checks: 0 for `Ok`, the refusal's number for `Err`, and
-- beside it what the definitions of reading and writing have there.
use Rattle.std.specs.Prelude.{ℕ, Result, Ok, Err}
use Rattle.network.specs.Network.{no_network}
use Rattle.network.specs.Refusals.{refusal_number}
use Rattle.network.specs.declared.refusals.Refusal.{Refusal}
use Rattle.network.specs.declared.valid.ValidNetwork.{ValidNetwork}
use Rattle.network_file.specs.Number.{Number, Value, Refused}
use Rattle.network_file.specs.Reading.{Reading}
use Rattle.network_file.specs.Writing.{FileWritten}
use Rattle.network_file.specs.declared.Fault.{Fault}
use Rattle.network_file.specs.declared.FileNumber.{FileNumber}

-- a number at the front of a part of a file
abbrev pub as_number : Result FileNumber Refusal → Number
as_number (Ok n) = Value n.value n.size
as_number (Err e) = Refused (refusal_number e)

-- a file read
abbrev pub as_reading : Result ValidNetwork Fault → Reading
as_reading (Ok net) = record { number = 0; place = 0; network = net.network }
as_reading (Err f) = record { number = refusal_number f.refusal; place = f.place; network = no_network }

-- a file written
abbrev pub as_written : Result ℕ Refusal → FileWritten
as_written (Ok size) = record { number = 0; length = size }
as_written (Err e) = record { number = refusal_number e; length = 0 }
