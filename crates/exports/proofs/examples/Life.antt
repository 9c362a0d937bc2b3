-- A life of resort A in its caller's memory: the numbers that C gets, evaluated, and a list of calls that demand 3 is
-- claimed of. The values are the paper's (P2, P4, P5, P7).
use Rattle.std.specs.Prelude.{◌≡◌, refl, [], ◌∷◌, negsuc}
use Rattle.std.proofs.Common.{sym, ap}
use Rattle.node_set.specs.Set.{size}
use Rattle.base.specs.Sum.{sum}
use Rattle.min_cut.specs.Cut.{cut_value}
use Rattle.min_cut.specs.FirstWord.{first, least_min_cut}
use Rattle.base.specs.Word.{holds, word}
use Rattle.base.specs.Basics.{all, every, blank, among}
use Rattle.network.specs.Network.{network_fits}
use Rattle.cut_tree.specs.Rule.{moved, stepped, rule_by, least_cut, rule}
use Rattle.cut_tree.specs.Rebuild.{kept_by, kept_or_least_by, rebuilt_by, rebuilt}
use Rattle.cut_tree.specs.Path.{reaches, climb, lightest_of, lightest_on, side_of, answer}
use Rattle.cut_tree.specs.LightestEdge.{lightest_among}
use Rattle.cut_tree.specs.Path.{Found}
use Rattle.plan.specs.Calls.{change_number, undo_number, altered, change_of, undo_of, pair_number, pair_of, preview_of}
use Rattle.plan.proofs.examples.Replies.{short}
use Rattle.plan.specs.Plan.{tree_fits, steps_fit, stack_fits, sound}
use Rattle.plan.proofs.examples.ResortA.{plan_a}
use Rattle.plan.specs.declared.HeadroomReply.{HeadroomReply}
use Rattle.plan.specs.declared.Plan.{Plan}
use Rattle.plan.specs.Calls.{PreviewReply}
use Rattle.exports.specs.PairReply.{pair_reply}
use Rattle.exports.specs.Made.{pamzolit_change, pamzolit_undo, pamzolit_pair, pamzolit_preview, pamzolit_headroom}
use Rattle.exports.specs.Made.{Held}
use Rattle.exports.specs.declared.held.PairReply.{PairReply}

-- the pair (3, 1): weight 6, the edge of node 2, the side {2, 3}; and a node with itself
abbrev six : PairReply
six = record { number = 0; weight = 6; side = 12; node = 2; size = 2 }

abbrev refused : PairReply
refused = record { number = 15; weight = 0; side = 0; node = 0; size = 0 }

pub pair_31 : pair_reply (pair_of plan_a 3 1) ≡ six
unfolding sum holds first word all every blank network_fits reaches climb among lightest_on lightest_of side_of answer size
    tree_fits steps_fit stack_fits lightest_among sound pair_number pair_of
pair_31 = refl

pub pair_33 : pair_reply (pair_of plan_a 3 3) ≡ refused
unfolding holds all every blank network_fits reaches tree_fits steps_fit stack_fits first lightest_of lightest_among sound
    pair_number pair_of
pair_33 = refl

-- the pair (1, 3) with link 3 at 4: weight 8, the edge of node 1, the side {1}; 2 steps would not be kept
abbrev eight : PairReply
eight = record { number = 0; weight = 8; side = 2; node = 1; size = 1 }

pub preview_34 : preview_of plan_a 3 4 1 3 ≡ record { answer = Found 8 1 2 1; count = 2 }
unfolding sum cut_value holds first least_min_cut word all every blank network_fits moved stepped rule_by least_cut rule
    kept_by kept_or_least_by rebuilt_by rebuilt reaches climb among lightest_on lightest_of side_of answer size tree_fits
    steps_fit stack_fits lightest_among sound change_number altered change_of pair_number pair_of preview_of
preview_34 = refl

-- link 3 from 2 to 4, which keeps one of three steps, and undone, which keeps none
abbrev p₁ : Plan
p₁ = (change_of plan_a 3 4).plan

pub change_34 : record { number = 0; count = 2; plan = p₁ } ≡ change_of plan_a 3 4
unfolding sum cut_value holds first least_min_cut word all every blank network_fits moved stepped rule_by least_cut rule
    kept_by kept_or_least_by rebuilt_by rebuilt reaches tree_fits steps_fit stack_fits lightest_of lightest_among sound
    change_number altered change_of
change_34 = refl

pub undo_34 : record { number = 0; count = 3; plan = plan_a } ≡ undo_of p₁
unfolding sum cut_value holds first least_min_cut word all every blank network_fits moved stepped rule_by least_cut rule
    kept_by kept_or_least_by rebuilt_by rebuilt reaches tree_fits steps_fit stack_fits lightest_of lightest_among sound
    change_number undo_number altered change_of undo_of
undo_34 = refl

-- "-0.5"
abbrev half : HeadroomReply
half = record { number = 0; value = negsuc 4; text = 32 ∷ 32 ∷ 32 ∷ 32 ∷ 32 ∷ 32 ∷ 32 ∷ 32 ∷ 45 ∷ 48 ∷ 46 ∷ 53 ∷ [] }

pub life : Held plan_a (
    pamzolit_pair 3 1 0 six plan_a
    ∷ pamzolit_headroom 3 1 11 0 half plan_a
    ∷ pamzolit_preview 3 4 1 3 0 eight 2 plan_a
    ∷ pamzolit_change 3 4 0 2 p₁
    ∷ pamzolit_undo 0 3 plan_a
    ∷ pamzolit_pair 3 3 15 refused plan_a
    ∷ [])
unfolding Held
life = (
  (sym (ap (λ (r : PairReply). r.number) pair_31), sym pair_31, refl),
  (
    (sym (ap (λ (r : HeadroomReply). r.number) short), sym short, refl),
    (
      (
        sym (ap (λ (r : PreviewReply). (pair_reply r.answer).number) preview_34),
        sym (ap (λ (r : PreviewReply). pair_reply r.answer) preview_34),
        sym (ap (λ (r : PreviewReply). r.count) preview_34),
        refl,
      ),
      (change_34, (undo_34, ((sym (ap (λ (r : PairReply). r.number) pair_33), sym pair_33, refl), tt))),
    ),
  ),
)
