-- `link` meets its contract: three numbers are taken, one behind the other.
use Rattle.std.proofs.Common.{◌∙◌, arith}
use Rattle.base.proofs.laws.ResultLaws.{exit_of}
use Rattle.network_file.specs.code.Parts.{as_link}
use Rattle.network_file.proofs.laws.ReadingSteps.{in_file, a_stops, b_stops, c_stops}
use Rattle.network_file.proofs.laws.ReadingSteps.{end_below, other_end_below, link_taken}
use Rattle.network_file.proofs.reader.Reader.link.Goals as goal

pub returns-in_err-a-clause-value : goal.returns-in_err-a-clause-value
returns-in_err-a-clause-value c =
    exit_of (as_link _) _ _ _ c.from_residual.ensures.1 (a_stops _ _ _ _ _ _ c.in_err-a.ensures.value)

pub returns-in_err-b-clause-value : goal.returns-in_err-b-clause-value
returns-in_err-b-clause-value c =
    exit_of (as_link _) _ _ _ c.from_residual-in_err-b.ensures.1
    (b_stops _ _ _ _ _ _ c.in_ok-a.ensures.value _ _ (in_file _ _ c.in_ok-a.ensures.file c.in_err-b.ensures.value))

pub returns-in_err-capacity-clause-value : goal.returns-in_err-capacity-clause-value
returns-in_err-capacity-clause-value c =
    let b = in_file _ _ c.in_ok-a.ensures.file c.in_ok-b.ensures.value in
    let stop = in_file _ _ (c.in_ok-b.ensures.file ∙ c.in_ok-a.ensures.file) c.in_err-capacity.ensures.value in
    exit_of (as_link _) _ _ _ c.from_residual-in_err-capacity.ensures.1
    (c_stops _ _ _ _ _ _ c.in_ok-a.ensures.value _ _ b _ _ stop)

pub overflow_cast-result : goal.overflow_cast-result
overflow_cast-result c =
    let h = end_below _ _ _ _ _ c.in_ok-a.ensures.value in record { fits = omega (arith, c.requires) }

pub overflow_cast-result-2 : goal.overflow_cast-result-2
overflow_cast-result-2 c =
    let h = other_end_below _ _ _ _ _ _ c.in_ok-b.ensures.value in record { fits = omega (arith, c.requires) }

pub returns-clause-value : goal.returns-clause-value
returns-clause-value c =
    let b = in_file _ _ c.in_ok-a.ensures.file c.in_ok-b.ensures.value in
    let last = in_file _ _ (c.in_ok-b.ensures.file ∙ c.in_ok-a.ensures.file) c.in_ok-capacity.ensures.value in
    link_taken _ _ _ _ _ _ c.in_ok-a.ensures.value _ _ b _ _ last
