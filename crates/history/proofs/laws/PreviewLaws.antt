-- Two lists of calls from one plan: a call that stands in both, and a preview that stands in one.
use Rattle.std.specs.Prelude.{◌≡◌, refl, true, List, ◌∷◌}
use Rattle.std.proofs.Common.{sym, ap, subst, ◌∙◌, true≢false}
use Rattle.base.specs.Checks.{accepted}
use Rattle.network.specs.declared.Network.{Network}
use Rattle.plan.specs.declared.Plan.{Plan}
use Rattle.history.specs.Machine.{Call, change, undo, ask, Entry, State, next, state}
use Rattle.history.specs.Run.{Reply, Event, number_in, calls_of, plan_after, Run, left}
use Rattle.history.specs.History.{stands, standing}
use Rattle.history.specs.Previews.{is_preview, SameFrom}
use Rattle.history.proofs.laws.MachineLaws.{either, ask_next}

-- a call that stands in both lists: both go on from the same plan and the same state
pub both : (p : Plan) (e : Event) (others es : List Event) → Run p (e ∷ es)
    → SameFrom (plan_after p e.call e.reply) others es → SameFrom p (e ∷ others) (e ∷ es)
unfolding left state standing
both p e others es h ih = record {
  run = (h.0, ih.run);
  plan = ih.plan;
  machine = λ net x. ih.machine net (next net x e.call);
  changes = λ ds. ih.changes _;
}

-- a preview stands in one of them only, and leaves plan, state and what stands
leaves_plan : (p : Plan) (c : Call) (r : Reply c) → is_preview c ≡ true → plan_after p c r ≡ p
leaves_plan p (change k c) r b = absurd (true≢false (sym b))
leaves_plan p undo r b = absurd (true≢false (sym b))
leaves_plan p (ask q) r b = refl

leaves_state : (net : Network) (x : State) (c : Call) → is_preview c ≡ true → next net x c ≡ x
leaves_state net x (change k c) b = absurd (true≢false (sym b))
leaves_state net x undo b = absurd (true≢false (sym b))
leaves_state net x (ask q) b = ask_next net x q

leaves_standing : (ds : List Entry) (c : Call) → is_preview c ≡ true → stands ds c ≡ ds
leaves_standing ds (change k c) b = absurd (true≢false (sym b))
leaves_standing ds undo b = absurd (true≢false (sym b))
leaves_standing ds (ask q) b = refl

pub one : (p : Plan) (e : Event) (others es : List Event) → is_preview e.call ≡ true
    → SameFrom (plan_after p e.call e.reply) others es → SameFrom p others (e ∷ es)
unfolding left state standing
one p e others es b ih =
    let same = leaves_plan p e.call e.reply b in
    record {
      run = subst (λ (q : Plan). Run q others) same ih.run;
      plan = ap (λ (q : Plan). left q others) (sym same) ∙ ih.plan;
      machine = λ net x.
          ap (λ (y : State). state net y (calls_of others)) (sym (leaves_state net x e.call b))
          ∙ ih.machine net (next net x e.call);
      changes = λ ds.
          let n = number_in e.call e.reply in
          let stays : accepted n (stands ds e.call) (λ m. ds) ≡ ds =
          ap (λ (v : List Entry). accepted n v (λ m. ds)) (leaves_standing ds e.call b) ∙ either n ds in
          ap (λ (v : List Entry). standing v others) (sym stays) ∙ ih.changes _;
    }
