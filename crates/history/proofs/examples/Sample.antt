-- A run from resort A: demand 3 is not empty, and what it says of one list.
use Rattle.std.specs.Prelude.{◌≡◌, refl, List, [], ◌∷◌, replicate, pos}
use Rattle.std.proofs.Common.{sym, ap, subst, ◌∙◌, arith}
use Rattle.base.specs.Word.{holds}
use Rattle.base.specs.Basics.{all, every, blank}
use Rattle.network.specs.Network.{network_fits}
use Rattle.min_cut.specs.FirstWord.{first}
use Rattle.cut_tree.specs.Path.{reaches, lightest_of}
use Rattle.cut_tree.specs.LightestEdge.{lightest_among}
use Rattle.plan.specs.Plan.{tree_fits, steps_fit, stack_fits, sound}
use Rattle.plan.specs.Calls.{change_of, undo_of, pair_of, preview_of, flow_number, Flowed}
use Rattle.history.specs.Machine.{change, undo, pair, flow, preview, refusal, next, numbers, ask}
use Rattle.history.specs.Run.{FlowReply, Event, Run, calls_of, numbers_of}
use Rattle.history.specs.History.{Demand3}
use Rattle.history.specs.Previews.{without_previews}
use Rattle.history.proofs.theorems.Whole.{demand_3}
use Rattle.history.proofs.theorems.AsIfAbsent.{as_if_absent}
use Rattle.plan.proofs.examples.ResortA.{resort_a, plan_a, opening_A}
use Rattle.history.proofs.examples.FlowA.{eight, eight_lawful, eight_total}
use Rattle.plan.specs.declared.Plan.{Plan}
use Rattle.plan.specs.Calls.{Opening}

-- a flow call that is accepted, and one whose buffer is too short
abbrev filled : FlowReply
filled = record { number = 0; before = replicate 5 (pos 0); behind = eight }

abbrev short : FlowReply
short = record { number = 16; before = pos 7 ∷ []; behind = pos 7 ∷ [] }

flowed : Flowed plan_a 0 1 (replicate 5 (pos 0)) 0 eight
unfolding holds all every blank network_fits reaches tree_fits steps_fit stack_fits first lightest_of lightest_among sound
    flow_number
flowed =
    record {
      number_is = refl;
      lawful = λ e. eight_lawful;
      total = λ e. eight_total.0 ∙ ap pos (sym eight_total.1);
      untouched = λ n. absurd (n refl);
    }

too_short : Flowed plan_a 0 1 (pos 7 ∷ []) 16 (pos 7 ∷ [])
unfolding holds all every blank network_fits reaches tree_fits steps_fit stack_fits first lightest_of lightest_among sound
    flow_number
too_short = record {
  number_is = refl;
  lawful = λ e. absurd (omega arith);
  total = λ e. absurd (omega arith);
  untouched = λ n. refl;
}

-- P4 and P5, with calls between them that are refused, and previews
abbrev p₁ : Plan
p₁ = (change_of plan_a 3 4).plan

abbrev p₂ : Plan
p₂ = (change_of p₁ 9 4).plan

abbrev p₃ : Plan
p₃ = (undo_of p₂).plan

unfoldable pub events : List Event
events =
    record { call = ask (flow 0 1 5); reply = filled }
    ∷ record { call = ask (flow 0 1 1); reply = short }
    ∷ record { call = change 3 4; reply = change_of plan_a 3 4 }
    ∷ record { call = ask (preview 1 1 3 1); reply = preview_of p₁ 1 1 3 1 }
    ∷ record { call = change 9 4; reply = change_of p₁ 9 4 }
    ∷ record { call = undo; reply = undo_of p₂ }
    ∷ record { call = undo; reply = undo_of p₃ }
    ∷ record { call = ask (preview 9 4 3 3); reply = preview_of (undo_of p₃).plan 9 4 3 3 }
    ∷ record { call = ask (pair 3 3); reply = pair_of (undo_of p₃).plan 3 3 }
    ∷ record { call = ask (pair 3 1); reply = pair_of (undo_of p₃).plan 3 1 }
    ∷ []

run : Run plan_a events
unfolding events
run = ((refl, flowed), ((refl, too_short), (refl, (refl, (refl, (refl, (refl, (refl, (refl, (refl, tt))))))))))

-- of resort A's plan
claimed : (es : List Event) → Run plan_a es → Demand3 plan_a es
claimed es =
    subst (λ (p : Plan). Run p es → Demand3 p es) (ap (λ (o : Opening). o.plan) opening_A)
    (demand_3 resort_a (ap (λ (o : Opening). o.number) opening_A) es)

pub sample : Demand3 plan_a events
sample = claimed events run

-- its numbers, by the machine
pub sample_numbers : numbers_of events ≡ 0 ∷ 16 ∷ 0 ∷ 0 ∷ 10 ∷ 0 ∷ 13 ∷ 10 ∷ 15 ∷ 0 ∷ []
unfolding events numbers next refusal
sample_numbers = sample.numbered

-- without its two previews: the other calls, with the numbers that they had
pub sample_others : calls_of (without_previews events)
    ≡ ask (flow 0 1 5) ∷ ask (flow 0 1 1) ∷ change 3 4 ∷ change 9 4 ∷ undo ∷ undo ∷ ask (pair 3 3) ∷ ask (pair 3 1) ∷ []
unfolding events without_previews
sample_others = refl

pub others_numbers : numbers_of (without_previews events) ≡ 0 ∷ 16 ∷ 0 ∷ 10 ∷ 0 ∷ 13 ∷ 15 ∷ 0 ∷ []
unfolding events without_previews numbers next refusal
others_numbers = (claimed (without_previews events) (as_if_absent plan_a events run).run).numbered

-- the empty list: the opening's own plan
pub sample_empty : Demand3 plan_a []
sample_empty = claimed [] tt
