-- `read` meets its contract: the third number of a link is its capacity, and what is accepted is within the limits.
use Rattle.base.proofs.laws.ResultLaws.{exit_of}
use Rattle.network_file.specs.Reading.{read_file}
use Rattle.network_file.specs.Results.{as_reading}
use Rattle.network_file.proofs.laws.FileLaws.{accepted_fits}
use Rattle.network_file.proofs.reader.read.Goals as goal

pub returns-in_err-network : goal.returns-in_err-network
unfolding read_file
returns-in_err-network c = exit_of as_reading _ _ _ c.from_residual.ensures.1 c.in_err-network.ensures

pub invariant_of-result : goal.invariant_of-result
unfolding read_file
invariant_of-result c = record { fits = accepted_fits _ _ c.in_ok-network.ensures }

pub returns : goal.returns
unfolding read_file
returns c = c.in_ok-network.ensures
