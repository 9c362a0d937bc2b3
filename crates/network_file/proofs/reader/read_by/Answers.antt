-- `read_by` meets its contract: n and m are taken, the links read, and nothing follows.
use Rattle.std.proofs.Common.{◌≡◌, ◌∙◌, arith}
use Rattle.base.proofs.laws.ResultLaws.{exit_of}
use Rattle.network.specs.declared.refusals.Refusal.TheVariants.{BytesFollow}
use Rattle.network.specs.Limits.{max_groups}
use Rattle.network_file.specs.Reading.{nodes_row, links_row, a_number, taken, going, unread, read_links}
use Rattle.network_file.specs.code.Parts.{as_read}
use Rattle.network_file.specs.code.Rows.{row_of}
use Rattle.network_file.proofs.laws.ReadingSteps.{in_file, links_in_file, n_stops, m_stops, links_stop}
use Rattle.network_file.proofs.laws.ReadingSteps.{nodes_within, links_within, bytes_follow_lem, all_done}
use Rattle.network_file.proofs.laws.ReadingSteps.{file_refused, file_read}
use Rattle.network_file.proofs.reader.read_by.Goals as goal
use Rattle.network_file.proofs.reader.read_by.Goals.{In_ok-n, In_ok-m, In_ok-network}

-- n, m and the links are what the file has
n-read : (c : In_ok-n) → a_number c.in_ok-n.n c.take.new.self.place ≡ taken max_groups c.args.file.now 0 nodes_row
n-read c = c.in_ok-n.ensures.value

m-read : (c : In_ok-m)
    → a_number c.in_ok-m.m c.take-2.new.self.place ≡ taken max_groups c.args.file.now c.take.new.self.place links_row
m-read c = in_file _ _ c.in_ok-n.ensures.file c.in_ok-m.ensures.value

same-file : (c : In_ok-m) → c.take-2.new.self.file.now ≡ c.args.file.now
same-file c = c.in_ok-m.ensures.file ∙ c.in_ok-n.ensures.file

links-read : (c : In_ok-network) → going c.links.new.self.place c.in_ok-network.network
    ≡ read_links max_groups (row_of c.args.third) c.args.file.now c.in_ok-m.m
    (going c.take-2.new.self.place (unread c.in_ok-n.n c.in_ok-m.m))
links-read c = links_in_file _ _ _ (c.in_ok-m.ensures.file ∙ c.in_ok-n.ensures.file) c.in_ok-network.ensures.value

pub returns-in_err-n : goal.returns-in_err-n
returns-in_err-n c =
    exit_of as_read _ _ _ c.from_residual.ensures.1 (file_refused _ _ _ _ (n_stops _ _ _ _ c.in_err-n.ensures.value))

pub returns-in_err-m : goal.returns-in_err-m
returns-in_err-m c =
    let n = n-read (goal.at.returns-in_err-m c).In_ok-n in
    exit_of as_read _ _ _ c.from_residual-in_err-m.ensures.1
    (file_refused _ _ _ _ (m_stops _ _ _ _ n _ _ (in_file _ _ c.in_ok-n.ensures.file c.in_err-m.ensures.value)))

pub links-requires : goal.links-requires
links-requires c =
    let at = goal.at.links-requires c in
    (nodes_within _ _ _ _ (n-read at.In_ok-n), links_within _ _ _ _ (m-read at.In_ok-m))

pub returns-in_err-network : goal.returns-in_err-network
returns-in_err-network c =
    let at = goal.at.returns-in_err-network c in
    let net = links_in_file _ _ _ (same-file at.In_ok-m) c.in_err-network.ensures.value in
    exit_of as_read _ _ _ c.from_residual-in_err-network.ensures.1
    (file_refused _ _ _ _ (links_stop _ _ _ _ (n-read at.In_ok-n) _ _ (m-read at.In_ok-m) _ _ net))

pub returns-then-reader-file : goal.returns-then-reader-file
returns-then-reader-file c =
    let at = goal.at.returns-then-reader-file c in
    file_refused _ _ BytesFollow _
    (bytes_follow_lem _ _ _ _ (n-read at.In_ok-n) _ _ (m-read at.In_ok-m) _ _ (links-read at.In_ok-network)
    (omega (arith, c.if-reader-file.true)))

pub returns : goal.returns
returns c =
    let at = goal.at.returns c in
    file_read _ _ _ _
    (all_done _ _ _ _ (n-read at.In_ok-n) _ _ (m-read at.In_ok-m) _ _ (links-read at.In_ok-network)
    (omega (arith, c.if-reader-file.false)))
