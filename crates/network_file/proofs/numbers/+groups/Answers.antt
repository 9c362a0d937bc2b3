-- `read_groups` and `continued_by` meet their contracts: each return is a clause of the definition.
use Rattle.std.proofs.Common.{ℕ, sym, subst, ◌∙◌, arith, ◌-◌}
use Rattle.network.specs.Limits.{max_groups}
use Rattle.network_file.specs.Number.{Value}
use Rattle.network_file.proofs.laws.NumberSteps.{at_most_none, at_nothing, at_last, at_more, Small, groups_small}
use Rattle.network_file.proofs.numbers.+groups.Goals as goal
use Rattle.network_file.proofs.numbers.+groups.Goals.{continued_by-In_ok-rest}

-- ---- `read_groups`
pub read_groups-returns-then-left-eq0 : goal.read_groups-returns-then-left-eq0
read_groups-returns-then-left-eq0 t c = at_most_none _ _ c.if-left-eq0.true

pub read_groups-returns-in_default : goal.read_groups-returns-in_default
read_groups-returns-in_default t c = at_nothing _ _ c.if-left-eq0.false c.in_default.ensures.cases

pub read_groups-returns-then-x-lt128 : goal.read_groups-returns-then-x-lt128
read_groups-returns-then-x-lt128 t c = at_last _ _ _ _ c.if-left-eq0.false c.in-Some.ensures.cases.0 c.if-x-lt128.true

pub read_groups-returns : goal.read_groups-returns
read_groups-returns t c =
    c.continued_by.ensures ∙ at_more _ _ _ _ c.if-left-eq0.false c.in-Some.ensures.cases.0 c.if-x-lt128.false

-- ---- `continued_by`: what follows the byte fits
small : {t : ℕ} (c : continued_by-In_ok-rest t)
    → Small (max_groups - 1) (Value c.in_ok-rest.rest.value c.in_ok-rest.rest.size)
small c =
    subst (Small (max_groups - 1)) (sym c.in_ok-rest.ensures)
    (groups_small c.args.left c.args.behind.now (λ i. omega (arith, c.type_inv.behind i)) c.requires.1)

pub continued_by-overflow_mul-result : goal.continued_by-overflow_mul-result
continued_by-overflow_mul-result t c =
    let h = small (goal.at.continued_by-overflow_mul-result t c).In_ok-rest in record { fits = omega (arith, h.value) }

pub continued_by-overflow_add-result : goal.continued_by-overflow_add-result
continued_by-overflow_add-result t c =
    let h = small (goal.at.continued_by-overflow_add-result t c).In_ok-rest in
    record { fits = omega (arith, h.value, c.ranges.x.fits) }

pub continued_by-overflow_add-result-2 : goal.continued_by-overflow_add-result-2
continued_by-overflow_add-result-2 t c =
    let h = small (goal.at.continued_by-overflow_add-result-2 t c).In_ok-rest in record { fits = omega (arith, h.size) }
