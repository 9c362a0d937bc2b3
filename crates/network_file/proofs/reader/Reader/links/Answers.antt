-- `links` meets its contract.
use Rattle.std.proofs.Common.{◌≡◌, Ok, Err, refl, ◌∙◌, arith}
use Rattle.std.proofs.lemmas.Grind.{common_steps}
use Rattle.base.proofs.laws.ResultLaws.{exit_of}
use Rattle.network.specs.Limits.{max_groups}
use Rattle.network_file.specs.Reading.{link_at}
use Rattle.network_file.specs.code.Parts.{as_link, as_progress}
use Rattle.network_file.specs.code.Rows.{row_of}
use Rattle.network_file.proofs.laws.ReadingSteps.{link_in_file}
use Rattle.network_file.proofs.laws.LinksSteps.{none_read, one_more, one_refused}
use Rattle.network_file.proofs.reader.Reader.links.Goals as goal

pub loop-k-init : goal.loop-k-init
loop-k-init c = record { same = refl; read = rw c.new-network.ensures (none_read _ _ _ _ _) }

pub returns-in_err-link : goal.returns-in_err-link
returns-in_err-link c =
    let a = c.args in
    let l = c.loop-k in
    let is : as_link c.link.new.self.place (Err c.in_err-link.field-0.0)
    ≡ link_at max_groups (row_of a.third) l.self.file.now l.self.place a.n =
    grind (arith, common_steps, c.link.ensures.value) in
    record {
      file = c.link.ensures.file ∙ l.invariant.same;
      value =
          exit_of (as_progress _) _ _ _ c.from_residual.ensures.1
          (one_refused l.invariant.read c.loop-k-test.true _ _ (link_in_file _ _ _ l.invariant.same is));
    }

pub loop-k-preserved : goal.loop-k-preserved
loop-k-preserved c =
    let a = c.args in
    let l = c.loop-k in
    let is : as_link c.link.new.self.place (Ok c.in_ok-link.link)
    ≡ link_at max_groups (row_of a.third) l.self.file.now l.self.place a.n =
    grind (arith, common_steps, c.link.ensures.value) in
    let e = c.set_link.ensures in
    record {
      same = c.link.ensures.file ∙ l.invariant.same;
      read = one_more l.invariant.read c.loop-k-test.true _ _ _ _ _ e.nodes e.links e.a e.b e.capacity
          (link_in_file _ _ _ l.invariant.same is);
    }
