-- `pamzolit_listing` gives the length, or what stands for none.
use Rattle.std.proofs.Common.{ap, ◌∙◌, length}
use Rattle.std.specs.Prelude.{unwrap_or}
use Rattle.listing.specs.Listing.{not_listed}
use Rattle.listing.proofs.laws.ListedLaws.{listed_number}
use Rattle.exports.proofs.pamzolit_listing.Goals as goal

pub returns-clause-value : goal.returns-clause-value
returns-clause-value c =
    let a = c.args in
    c.unwrap_or.ensures ∙ ap (λ o. unwrap_or o not_listed) c.listing.ensures.value
    ∙ listed_number a.file.now (length a.out.now)
