-- `plan::previews::preview` meets its contract: once no row held, it shows the changed tree's answer, whatever it is.
use Rattle.std.proofs.Common.{refl}
use Rattle.base.proofs.laws.ResultLaws.{exit_of}
use Rattle.plan.specs.Results.{as_preview}
use Rattle.plan.proofs.laws.PreviewLaws.{preview_shows}
use Rattle.plan.proofs.previews.preview.Goals as goal

pub returns-in_err-pair : goal.returns-in_err-pair
returns-in_err-pair c =
    exit_of as_preview _ _ _ c.from_residual-in_err-pair.ensures.1
    (preview_shows _ _ _ _ _ _ c.in_ok-check_preview.ensures refl _ c.rebuild-built.ensures _ c.in_err-pair.ensures)

pub returns : goal.returns
returns c =
    preview_shows _ _ _ _ _ _ c.in_ok-check_preview.ensures refl _ c.rebuild-built.ensures _ c.in_ok-pair.ensures
