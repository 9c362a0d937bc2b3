-- What results of the code are in the numbers of the table of checks: accepted, and refused, with what stands beside.
use Rattle.std.specs.Prelude.{◌≡◌, refl, ℕ, Result, Ok, Err}
use Rattle.network.specs.Network.{no_network}
use Rattle.network.specs.declared.refusals.Refusal.{Refusal}
use Rattle.network.specs.declared.refusals.Refusal.TheVariants.{ZeroGroup, EqualEnds, BufferTooShort}
use Rattle.network.specs.declared.valid.ValidNetwork.{ValidNetwork}
use Rattle.network_file.specs.Number.{Value, Refused}
use Rattle.network_file.specs.Results.{as_number, as_reading, as_written}
use Rattle.network_file.specs.declared.Fault.{Fault}
use Rattle.network_file.specs.declared.FileNumber.{FileNumber}

-- a number of two bytes, and one that ends in a group of zero
abbrev three_hundred : Result FileNumber Refusal
three_hundred = Ok (record { value = 300; size = 2 })

abbrev ends_in_zero : Result FileNumber Refusal
ends_in_zero = Err ZeroGroup

numbers : (as_number three_hundred ≡ Value 300 2) × (as_number ends_in_zero ≡ Refused 3)
numbers = (refl, refl)

-- a fault at place 3, the other end of a link: its number and its place, and no network
abbrev fault : Result ValidNetwork Fault
fault = Err (record { refusal = EqualEnds; place = 3 })

fault_read : as_reading fault ≡ record { number = 7; place = 3; network = no_network }
fault_read = refl

-- any network that was read: 0 for both
read : (net : ValidNetwork) → as_reading (Ok net) ≡ record { number = 0; place = 0; network = net.network }
read net = refl

-- a file of 18 bytes; and a buffer that is too short, into which nothing is written
abbrev eighteen : Result ℕ Refusal
eighteen = Ok 18

abbrev short : Result ℕ Refusal
short = Err BufferTooShort

written : (as_written eighteen ≡ record { number = 0; length = 18 }) × (as_written short ≡ record { number = 18; length = 0 })
written = (refl, refl)
