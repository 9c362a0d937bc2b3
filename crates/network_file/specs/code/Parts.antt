-- What the parts that the code has read are in the numbers of the table of checks, as in `Results`, by the place where
-- reading goes on.
use Rattle.std.specs.Prelude.{ℕ, Result, Ok, Err}
use Rattle.network.specs.Network.{no_network}
use Rattle.network.specs.Refusals.{refusal_number}
use Rattle.network.specs.declared.Network.{Network}
use Rattle.network.specs.declared.link.Link as link
use Rattle.network_file.specs.Reading.{Taken, Link, Progress, Reading, a_number, no_number, no_link, going, stopped}
use Rattle.network_file.specs.declared.Fault.{Fault}

-- a number that was taken
abbrev pub as_taken : ℕ → Result ℕ Fault → Taken
as_taken place (Ok v) = a_number v place
as_taken place (Err f) = no_number (refusal_number f.refusal) f.place

-- a link
abbrev pub as_link : ℕ → Result link.Link Fault → Link
as_link place (Ok l) = record { number = 0; place = place; a = l.a; b = l.b; capacity = l.capacity }
as_link place (Err f) = no_link (refusal_number f.refusal) f.place

-- how far a file was read
abbrev pub as_progress : ℕ → Result Network Fault → Progress
as_progress place (Ok net) = going place net
as_progress place (Err f) = stopped (refusal_number f.refusal) f.place

-- a file read, whatever its links' third numbers have to pass
abbrev pub as_read : Result Network Fault → Reading
as_read (Ok net) = record { number = 0; place = 0; network = net }
as_read (Err f) = record { number = refusal_number f.refusal; place = f.place; network = no_network }
