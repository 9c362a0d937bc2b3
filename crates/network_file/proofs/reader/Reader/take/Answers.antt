-- `take` meets its contract: what is read is refused, or a value that does not reach past the end, and then its row
-- says.
use Rattle.std.proofs.Common.{ℕ, ◌+◌, ◌-◌, ◌≡◌, ◌≤◌, List, Result, Ok, MatchResult, length, take, drop}
use Rattle.std.proofs.Common.{refl, sym, ap, ◌∙◌, arith, rules}
use Rattle.base.proofs.laws.ListLaws.{rest_is}
use Rattle.base.proofs.laws.ResultLaws.{exit_of}
use Rattle.network.specs.Refusals.{outcome_number}
use Rattle.network.specs.declared.refusals.Refusal.{Refusal}
use Rattle.network_file.specs.Number.{read_number}
use Rattle.network_file.specs.Reading.{no_number}
use Rattle.network_file.specs.Results.{as_number}
use Rattle.network_file.specs.code.Parts.{as_taken}
use Rattle.network_file.specs.declared.Fault.{Fault}
use Rattle.network_file.specs.declared.FileNumber.{FileNumber}
use Rattle.network.proofs.laws.RefusalLaws.{refusal_some}
use Rattle.network_file.proofs.laws.ReadingSteps.{takes_none, takes_wrong, takes_value, value_within}
use Rattle.network_file.proofs.laws.ReadingSteps.{mapped, unmapped}
use Rattle.network_file.proofs.reader.Reader.take.Goals as goal

-- what was read, of the list that stands behind the slice
what : (s : List ℕ) (place : ℕ) {r n : Result FileNumber Refusal} → as_number r ≡ read_number (take (length s - place) (drop place s))
    → r ≡ n → read_number (drop place s) ≡ as_number n
what s place e q = sym (e ∙ ap read_number (rest_is s place)) ∙ ap as_number q

-- where what was read ends
ends : (s : List ℕ) (place : ℕ) → place ≤ length s → (r : Result FileNumber Refusal) (n : FileNumber)
    → as_number r ≡ read_number (take (length s - place) (drop place s))
    → MatchResult r (λ m. ◌≡◌ {A = Result FileNumber Fault} (Ok n) (Ok m)) (λ e. ⊥)
    → place + n.size ≤ length s
ends s place l r n e h = value_within s place _ _ l (what s place e (unmapped _ _ h))

pub returns-in_err-number-clause-value : goal.returns-in_err-number-clause-value
returns-in_err-number-clause-value c =
    let p = mapped _ _ c.args.self.now.place c.in_err-number.ensures.cases (λ e k. search rules) in
    let q = what c.args.self.now.file.now c.args.self.now.place c.read_number.ensures p.0 in
    exit_of (as_taken _) _ _ _ c.from_residual.ensures.1 (ap (no_number _) p.1 ∙ takes_none _ _ _ _ q)

pub returns-in_err-map_err-clause-value : goal.returns-in_err-map_err-clause-value
returns-in_err-map_err-clause-value c =
    let r = unmapped _ _ c.in_ok-number.ensures.cases in
    let q = what c.args.self.now.file.now c.args.self.now.place c.read_number.ensures r in
    let p = mapped _ _ c.args.self.now.place c.in_err-map_err.ensures.cases (λ e k. search rules) in
    let by_row = sym (ap outcome_number p.0) ∙ c.check.ensures in
    exit_of (as_taken _) _ _ _ c.from_residual-in_err-map_err.ensures.1
    (ap (no_number _) p.1 ∙ takes_wrong _ _ _ _ _ q _ by_row (refusal_some _))

pub overflow_add-self : goal.overflow_add-self
overflow_add-self c =
    let a = c.args.self.now in
    omega (arith, ends a.file.now a.place a.within _ _ c.read_number.ensures c.in_ok-number.ensures.cases)

pub returns-clause-value : goal.returns-clause-value
returns-clause-value c =
    let r = unmapped _ _ c.in_ok-number.ensures.cases in
    let q = what c.args.self.now.file.now c.args.self.now.place c.read_number.ensures r in
    let by_row = sym (ap outcome_number (unmapped _ _ c.in_ok-map_err.ensures.cases)) ∙ c.check.ensures in
    takes_value _ _ _ _ _ q _ by_row refl

pub invariant_of-self : goal.invariant_of-self
invariant_of-self c =
    let a = c.args.self.now in
    record { within = ends a.file.now a.place a.within _ _ c.read_number.ensures c.in_ok-number.ensures.cases }
