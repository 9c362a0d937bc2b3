-- "A trial may stand anywhere in a list of calls and the past reads as if it weren't there." Of every plan, sound or
-- not and reached or not, and every list of calls from it. Assumes nothing.
use Rattle.std.specs.Prelude.{ℕ, ◌≡◌, refl, Bool, true, false, List, [], ◌∷◌, ◌++◌}
use Rattle.base.specs.Basics.{pick}
use Rattle.plan.specs.declared.Plan.{Plan}
use Rattle.history.specs.Run.{Event, plan_after, Run, left}
use Rattle.history.specs.Previews.{is_preview, without_previews, SameFrom, previewing}
use Rattle.history.proofs.laws.PreviewLaws.{both, one}

-- ---- a run without its previews is a run, leaves the same plan and the same state, and the other calls have the same
-- replies
pub as_if_absent : (p : Plan) (es : List Event) → Run p es → SameFrom p (without_previews es) es
unfolding without_previews
as_if_absent p [] h = record { run = tt; plan = refl; machine = λ net x. refl; changes = λ ds. refl }
as_if_absent p (e ∷ es) h = go (is_preview e.call) refl (as_if_absent (plan_after p e.call e.reply) es h.1)
  where
    others : List Event
    others = without_previews es

    go : (b : Bool) → is_preview e.call ≡ b → SameFrom (plan_after p e.call e.reply) others es
        → SameFrom p (pick b others (e ∷ others)) (e ∷ es)
    go true b ih = one p e others es b ih
    go false b ih = both p e others es h ih

-- ---- and wherever one is put, with the reply that the plan there gives, the list is a run that leaves the same plan
pub anywhere : (p : Plan) (before behind : List Event) (k c s t : ℕ) → Run p (before ++ behind)
    → let more = before ++ previewing (left p before) k c s t ∷ behind in
    Run p more × (left p more ≡ left p (before ++ behind))
unfolding left
anywhere p [] behind k c s t h = ((refl, h), refl)
anywhere p (e ∷ es) behind k c s t h =
    let (run, plan) = anywhere (plan_after p e.call e.reply) es behind k c s t h.1 in
    ((h.0, run), plan)
