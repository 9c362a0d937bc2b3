-- Demand 3, of every accepted file and every list of calls from its opening; and demand 2 of the opened plan. Assumes
-- nothing.
use Rattle.std.specs.Prelude.{ℕ, ◌≡◌, true, List, []}
use Rattle.std.proofs.Common.{sym, ap, subst, ◌∙◌}
use Rattle.network.specs.Network.{WithinLimits}
use Rattle.network.specs.declared.Network.{Network}
use Rattle.network_file.specs.Number.{Bytes}
use Rattle.network_file.specs.Reading.{read_file}
use Rattle.network_file.specs.Writing.{file_of}
use Rattle.network_file.proofs.laws.FileLaws.{accepts, round_trip, written_back}
use Rattle.cut_tree.specs.Definition1.{CutTree}
use Rattle.plan.specs.Plan.{sound}
use Rattle.plan.specs.Calls.{fresh, opened, open_of}
use Rattle.history.specs.Run.{Event, Run, left, Reached}
use Rattle.history.specs.History.{Demand3}
use Rattle.plan.proofs.theorems.Numbers.{opening_number, opening_accepted}
use Rattle.history.proofs.laws.HistoryProof.{history_fresh}
use Rattle.plan.specs.declared.Plan.{Plan}

pub demand_3 : (file : List ℕ) → (open_of file).number ≡ 0 → (es : List Event) → Run (open_of file).plan es
    → Demand3 (open_of file).plan es
demand_3 file e es =
    subst (λ (p : Plan). Run p es → Demand3 p es) (sym (opening_accepted file e).1)
    (history_fresh (read_file file).network (accepts file (sym (opening_number file) ∙ e)) es)

-- "Plans reached from an opening are sound"
pub reached_sound : (file : List ℕ) → (open_of file).number ≡ 0 → (q : Plan) → Reached (open_of file).plan q
    → sound q ≡ true
reached_sound file e q r =
    subst (λ (p : Plan). sound p ≡ true) r.leaves (demand_3 file e r.events r.run).plan_left.is_sound

-- ---- demand 2, of an opening
-- the tree is a cut tree of the network, by Definition 1
pub opened_cut_tree : (file : List ℕ) → (open_of file).number ≡ 0
    → CutTree (open_of file).plan.network (open_of file).plan.tree
unfolding left
opened_cut_tree file e = (demand_3 file e [] tt).cut_tree

-- every network within the limits has a file that opening accepts, with the network's own plan
pub opens_every_network : (net : Network) → WithinLimits net → open_of (file_of net) ≡ record {
  number = 0;
  place = 0;
  plan = fresh net;
}
unfolding open_of
opens_every_network net w = ap opened (round_trip net w)

-- and an accepted file is the one that is written back
pub opened_file : (file : List ℕ) → Bytes file → (open_of file).number ≡ 0 → file_of (open_of file).plan.network ≡ file
opened_file file b e =
    ap (λ (p : Plan). file_of p.network) (opening_accepted file e).1
    ∙ written_back file b (sym (opening_number file) ∙ e)
