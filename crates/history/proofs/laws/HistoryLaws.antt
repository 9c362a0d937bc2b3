-- One call, given the plan of the machine's state: its reply is as demand 3 says, and the plan after it is that of the next state.
use Rattle.std.specs.Prelude.{◌≡◌, ◌≢◌, not, replicate, eqb, List, [], ◌∷◌, ℕ, zero, suc, ◌-◌, ◌≤◌, ◌<◌}
use Rattle.std.proofs.Math.Path.{refl, sym, ap}
use Rattle.std.proofs.Common.{◌∙◌, arith}
use Rattle.std.proofs.Math.ListN.{length, length-set, get_or-append}
use Rattle.std.proofs.Math.Seq.{take_at}
use Rattle.std.proofs.Math.Dec.{eqb-suc-zero}
use Rattle.std.proofs.Math.IntN.{pos}
use Rattle.base.specs.Basics.{at}
use Rattle.base.proofs.laws.TestLaws.{shown as tests, head, rest}
use Rattle.base.specs.Checks.{row, accepted}
use Rattle.network.specs.Limits.{max_links, max_capacity}
use Rattle.network.specs.Network.{network_fits, WithinLimits, with_capacity}
use Rattle.network.proofs.laws.NetworkLaws.{capacity_le, change_within}
use Rattle.network.specs.declared.Network.{Network}
use Rattle.cut_tree.specs.Rule.{rule}
use Rattle.cut_tree.proofs.theorems.Rebuilds.{rebuilt_tree}
use Rattle.cut_tree.specs.Path.{pair_rows, answer, number_of, weight_of}
use Rattle.cut_tree.proofs.theorems.AnswerMinimum.{answer_minimum, answer_lightest, answer_weight}
use Rattle.cut_tree.specs.Path.{PairAnswer}
use Rattle.cut_tree.specs.Path.{Refused}
use Rattle.plan.specs.Plan.{max_depth, push}
use Rattle.plan.specs.Calls.{change_number, undo_number, altered, unaltered, changed, undone, change_of, undo_of, pair_number, pair_of}
use Rattle.plan.specs.Calls.{no_preview, preview_number, preview_of, flow_number}
use Rattle.plan.proofs.laws.PreviewLaws.{shown, preview_is}
use Rattle.history.specs.Machine.{Query, pair, flow, preview, Call, change, undo, ask, Entry, State, refusal, number_at, next}
use Rattle.history.specs.Machine.{padded, network_at, stack_of}
use Rattle.history.specs.Run.{FlowReply, Answer, Reply, answer_number, number_in, Answered, Promised, plan_after}
use Rattle.history.specs.History.{Agrees, RightPair, RightFlow, RightPreview, RightAnswer, NoAnswer, Unaltered, AtCall}
use Rattle.history.proofs.laws.StackLaws.{stack_depth, top_link, top_capacity, pop_stack}
use Rattle.history.proofs.laws.MachineLaws.{pair_ok, change_ok, refused_next, accepted_next, ask_next}
use Rattle.history.proofs.laws.PlanAt.{plan_at, Good, sound_at, set_within, altered_plan, altered_count}
use Rattle.plan.specs.declared.Stack.{Stack}
use Rattle.plan.specs.Calls.{Changed}
use Rattle.plan.specs.Calls.{PreviewReply}

module _ (net : Network) where
  -- the network of a state, and the answer from the rule's tree on it
  abbrev G : State → Network
  G x = network_at net x.capacity

  abbrev answer_at : State → (s t : ℕ) → PairAnswer
  answer_at x s t = answer (rule (network_at net x.capacity)).tree net.nodes s t

  pub agrees_at : (x : State) → Good net x → Agrees net x (plan_at net x)
  unfolding network_fits
  agrees_at x g =
      record {
        nodes = refl;
        links = refl;
        a = refl;
        b = refl;
        capacity = take_at x.capacity (replicate (max_links - length x.capacity) 0) net.links g.long;
        unused = head (rest (rest (rest (rest (rest (rest (tests _ g.within.fits)))))));
        stack = refl;
        tree = refl;
        steps = refl;
        lightest = refl;
        is_sound = sound_at net x g;
      }

  pub record Stepped (x : State) (c : Call) (r : Reply c) : Type 0 where
    pub right : AtCall net x (plan_at net x) c r
    pub plan : plan_after (plan_at net x) c r ≡ plan_at net (next net x c)
    pub good : Good net (next net x c)

  -- ---- the plan's numbers are the machine's
  module _ (x : State) (g : Good net x) where
    change_number_lem : (k c : ℕ) → change_number (plan_at net x) k c ≡ number_at net x (change k c)
    unfolding change_number refusal
    change_number_lem k c = rw (sound_at net x g, stack_depth x.stack)

    undo_number_lem : undo_number (plan_at net x) ≡ number_at net x undo
    unfolding undo_number refusal
    undo_number_lem = rw (sound_at net x g, stack_depth x.stack)

    preview_number_lem : (k c s t : ℕ) → preview_number (plan_at net x) k c s t ≡ number_at net x (ask (preview k c s t))
    unfolding preview_number refusal
    preview_number_lem k c s t = rw (sound_at net x g, stack_depth x.stack)

    pub pair_number_lem : (s t : ℕ) → pair_number (plan_at net x) s t ≡ number_at net x (ask (pair s t))
    unfolding pair_number refusal
    pair_number_lem s t = rw (sound_at net x g)

    flow_number_lem : (s t size : ℕ) → flow_number (plan_at net x) s t size ≡ number_at net x (ask (flow s t size))
    unfolding flow_number refusal
    flow_number_lem s t size = rw (sound_at net x g)

  -- ---- a change or undo that is refused: it gives back its plan
  refused_step : (x : State) → Good net x → (c : Call) (r : Reply c) (e : ℕ) → number_at net x c ≡ suc e
      → number_in c r ≡ suc e → Unaltered (plan_at net x) c r → plan_after (plan_at net x) c r ≡ plan_at net x → Stepped x c r
  refused_step x g c r e q n u p =
      record {
        right = record { plan = agrees_at x g; number = n ∙ sym q; if_accepted = λ z. absurd (omega (arith, n)); if_refused = λ z. u };
        plan = p ∙ ap (plan_at net) (sym (refused_next net x c e q));
        good = rw (refused_next net x c e q) g;
      }

  -- ---- change
  module _ (x : State) (g : Good net x) (k c : ℕ) (r : Changed) (h : r ≡ change_of (plan_at net x) k c) where
    change_by : (e : ℕ) → number_at net x (change k c) ≡ e → r ≡ accepted e (changed (plan_at net x) k c) (unaltered (plan_at net x))
    unfolding change_of
    change_by e q = h ∙ ap (λ (v : ℕ). accepted v (changed (plan_at net x) k c) (unaltered (plan_at net x))) (change_number_lem x g k c ∙ q)

    change_accepted : number_at net x (change k c) ≡ 0 → Stepped x (change k c) r
    unfolding stack_of
    change_accepted q = record {
      right = record {
        plan = agrees_at x g;
        number = number ∙ sym q;
        if_accepted = λ z. rw (ap (λ (v : Changed). v.count) by) (altered_count net x g k c kl cl pushed);
        if_refused = λ z. absurd (z number);
      };
      plan = ap (λ (v : Changed). v.plan) by ∙ altered_plan net x g k c kl cl pushed entries pushed_is
          ∙ ap (plan_at net) (sym (accepted_next net x (change k c) q));
      good = rw (accepted_next net x (change k c) q) (record {
        long = length-set x.capacity k c ∙ g.long;
        within = set_within net x g k c kl cl;
        entries = (kl, omega (arith, at_k, capacity_le (G x) g.within.fits k kl), g.entries);
        deep = omega (arith, ok.2, g.deep);
      });
    }
      where
        ok : (k < net.links) × (c ≤ max_capacity) × (length x.stack ≢ max_depth)
        ok = unfold refusal in (let h = change_ok net.links x k c [] q in (h.0, h.1, h.2))

        kl : k < net.links
        kl = ok.0

        cl : c ≤ max_capacity
        cl = ok.1

        by : r ≡ changed (plan_at net x) k c
        by = change_by 0 q

        number : r.number ≡ 0
        number = ap (λ (v : Changed). v.number) by ∙ (unfold altered in refl)

        pushed : Stack
        pushed = push (stack_of x.stack) k (at (padded x.capacity) k)

        entries : List Entry
        entries = record { link = k; capacity = at x.capacity k } ∷ x.stack

        at_k : at (padded x.capacity) k ≡ at x.capacity k
        at_k = get_or-append x.capacity (replicate (max_links - length x.capacity) 0) 0 k (omega (arith, g.long, kl))

        pushed_is : pushed ≡ stack_of entries
        pushed_is = ap (push (stack_of x.stack) k) at_k

    change_step : Stepped x (change k c) r
    change_step = go (number_at net x (change k c)) refl
      where
        go : (e : ℕ) → number_at net x (change k c) ≡ e → Stepped x (change k c) r
        go zero q = change_accepted q
        go (suc e) q =
            let by : r ≡ unaltered (plan_at net x) (suc e) = change_by (suc e) q in
            let p : r.plan ≡ plan_at net x = ap (λ (v : Changed). v.plan) by in
            refused_step x g (change k c) r e q (ap (λ (v : Changed). v.number) by) (p, ap (λ (v : Changed). v.count) by) p

  -- ---- undo
  undo_step : (cs : List ℕ) (stack : List Entry) → Good net (record { capacity = cs; stack = stack }) → (r : Changed)
      → r ≡ undo_of (plan_at net (record { capacity = cs; stack = stack })) → Stepped (record { capacity = cs; stack = stack }) undo r
  unfolding undo_of
  undo_step cs [] g r h =
      let x : State = record { capacity = cs; stack = [] } in
      let q : number_at net x undo ≡ 13 = unfold refusal in refl in
      let by : r ≡ unaltered (plan_at net x) 13 =
      h ∙ ap (λ (v : ℕ). accepted v (undone (plan_at net x)) (unaltered (plan_at net x))) (undo_number_lem x g ∙ q) in
      let p : r.plan ≡ plan_at net x = ap (λ (v : Changed). v.plan) by in
      refused_step x g undo r 12 q (ap (λ (v : Changed). v.number) by) (p, ap (λ (v : Changed). v.count) by) p
  undo_step cs (e ∷ es) g r h =
      let x : State = record { capacity = cs; stack = e ∷ es } in
      let p = plan_at net x in
      let l : length es < max_depth = omega (arith, g.deep) in
      let kl : e.link < net.links = g.entries.0 in
      let cl : e.capacity ≤ max_capacity = g.entries.1 in
      let q : number_at net x undo ≡ 0 = unfold refusal in (rw (eqb-suc-zero (length es))) in
      let tops : undone p ≡ altered p e.link e.capacity (stack_of es) =
      λ i. altered p (top_link e es l i) (top_capacity e es l i) (pop_stack e es l i) in
      let by : r ≡ altered p e.link e.capacity (stack_of es) =
      h ∙ ap (λ (v : ℕ). accepted v (undone p) (unaltered p)) (undo_number_lem x g ∙ q) ∙ tops in
      let number : r.number ≡ 0 = ap (λ (v : Changed). v.number) by ∙ (unfold altered in refl) in
      record {
        right = record {
          plan = agrees_at x g;
          number = number ∙ sym q;
          if_accepted = λ n. rw (ap (λ (v : Changed). v.count) by) (altered_count net x g e.link e.capacity kl cl (stack_of es));
          if_refused = λ z. absurd (z number);
        };
        plan = ap (λ (v : Changed). v.plan) by ∙ altered_plan net x g e.link e.capacity kl cl (stack_of es) es refl
            ∙ ap (plan_at net) (sym (accepted_next net x undo q));
        good = rw (accepted_next net x undo q) (record {
          long = length-set cs e.link e.capacity ∙ g.long;
          within = set_within net x g e.link e.capacity kl cl;
          entries = g.entries.2;
          deep = omega (arith, l);
        });
      }

  -- ---- pair
  pub pair_right : (H : Network) → WithinLimits H → (s t : ℕ) → s < H.nodes → t < H.nodes → s ≢ t
      → RightPair H s t (answer (rule H).tree H.nodes s t)
  pair_right H w s t sl tl d =
      record { by_rule = refl; lightest = answer_lightest H w s t sl tl d; minimum = answer_minimum H w s t sl tl d }

  -- a query's reply, by the number that the machine gives it
  pub record Replied (x : State) (q : Query) (r : Answer q) : Type 0 where
    pub number : answer_number q r ≡ number_at net x (ask q)
    pub if_accepted : answer_number q r ≡ 0 → RightAnswer (G x) q r
    pub if_refused : answer_number q r ≢ 0 → NoAnswer q r

  module _ (x : State) (g : Good net x) (s t : ℕ) (r : PairAnswer) (h : r ≡ pair_of (plan_at net x) s t) where
    pair_by : (e : ℕ) → number_at net x (ask (pair s t)) ≡ e → r ≡ accepted e (answer_at x s t) Refused
    unfolding pair_of
    pair_by e q = h ∙ ap (λ (v : ℕ). accepted v (answer_at x s t) Refused) (pair_number_lem x g s t ∙ q)

    pair_replied : (e : ℕ) → number_at net x (ask (pair s t)) ≡ e → Replied x (pair s t) r
    unfolding refusal
    pair_replied zero q =
        let ok = pair_ok net.nodes s t [] q in
        let by : r ≡ answer_at x s t = pair_by 0 q in
        let number : number_of r ≡ 0 = ap number_of by ∙ (unfold answer in refl) in
        record {
          number = number ∙ sym q;
          if_accepted = λ z. rw by (pair_right (G x) g.within s t ok.0 ok.1 ok.2);
          if_refused = λ z. absurd (z number);
        }
    pair_replied (suc e) q =
        let by : r ≡ Refused (suc e) = pair_by (suc e) q in
        let number : number_of r ≡ suc e = ap number_of by in
        record { number = number ∙ sym q; if_accepted = λ z. absurd (omega arith); if_refused = λ z. by ∙ ap Refused (sym number) }

  -- ---- flow
  module _ (x : State) (g : Good net x) (s t size : ℕ) (r : FlowReply) (h : Answered (plan_at net x) (flow s t size) r) where
    flow_number_is : r.number ≡ number_at net x (ask (flow s t size))
    flow_number_is = h.1.number_is ∙ ap (flow_number (plan_at net x) s t) h.0 ∙ flow_number_lem x g s t size

    flow_right : r.number ≡ 0 → RightFlow (G x) s t (weight_of (answer_at x s t)) r.behind
    unfolding refusal
    flow_right z =
        let ok = pair_ok net.nodes s t (row (not (eqb size net.links)) 16 ∷ []) (sym flow_number_is ∙ z) in
        record {
          lawful = h.1.lawful z;
          maximum = h.1.total z;
          by_weight = h.1.total z ∙ ap pos (answer_weight (G x) g.within s t ok.0 ok.1 ok.2);
        }

    pub flow_replied : Replied x (flow s t size) r
    flow_replied = record { number = flow_number_is; if_accepted = flow_right; if_refused = h.1.untouched }

  -- ---- preview
  module _ (x : State) (g : Good net x) (k c s t : ℕ) (r : PreviewReply) (h : r ≡ preview_of (plan_at net x) k c s t) where
    preview_by_lem : (e : ℕ) → number_at net x (ask (preview k c s t)) ≡ e → r ≡ accepted e (shown (plan_at net x) k c s t) no_preview
    preview_by_lem e q =
        h ∙ preview_is (plan_at net x) k c s t
        ∙ ap (λ (v : ℕ). accepted v (shown (plan_at net x) k c s t) no_preview) (preview_number_lem x g k c s t ∙ q)

    -- the rebuilt tree is the rule's, at the new capacity
    preview_right : k < net.links → c ≤ max_capacity → s < net.nodes → t < net.nodes → s ≢ t
        → RightPreview (G x) k c s t (shown (plan_at net x) k c s t)
    unfolding altered answer
    preview_right kl cl sl tl d = record {
      count = altered_count net x g k c kl cl (stack_of x.stack);
      pair =
          rw (rebuilt_tree (G x) g.within k c kl)
          (pair_right (with_capacity (G x) k c) (change_within (G x) k c kl cl g.within) s t sl tl d);
    }

    preview_replied : (e : ℕ) → number_at net x (ask (preview k c s t)) ≡ e → Replied x (preview k c s t) r
    unfolding refusal
    preview_replied zero q =
        let (kl, cl, _, z) = change_ok net.links x k c (pair_rows net.nodes s t []) q in
        let (sl, tl, d) = pair_ok net.nodes s t [] z in
        let by : r ≡ shown (plan_at net x) k c s t = preview_by_lem 0 q in
        let number : number_of r.answer ≡ 0 = ap (λ (v : PreviewReply). number_of v.answer) by ∙ (unfold answer in refl) in
        record {
          number = number ∙ sym q;
          if_accepted = λ z. rw by (preview_right kl cl sl tl d);
          if_refused = λ z. absurd (z number);
        }
    preview_replied (suc e) q =
        let by : r ≡ no_preview (suc e) = preview_by_lem (suc e) q in
        let number : number_of r.answer ≡ suc e = ap (λ (v : PreviewReply). number_of v.answer) by in
        record { number = number ∙ sym q; if_accepted = λ z. absurd (omega arith); if_refused = λ z. by ∙ ap no_preview (sym number) }

  -- ---- every query
  pub replied : (x : State) → Good net x → (q : Query) (r : Answer q) → Answered (plan_at net x) q r → Replied x q r
  replied x g (pair s t) r h = pair_replied x g s t r h _ refl
  replied x g (flow s t size) r h = flow_replied x g s t size r h
  replied x g (preview k c s t) r h = preview_replied x g k c s t r h _ refl

  ask_step : (x : State) → Good net x → (q : Query) (r : Answer q) → Answered (plan_at net x) q r → Stepped x (ask q) r
  ask_step x g q r h =
      let a = replied x g q r h in
      record {
        right = record {
          plan = agrees_at x g;
          number = a.number;
          if_accepted = a.if_accepted;
          if_refused = a.if_refused;
        };
        plan = ap (plan_at net) (sym (ask_next net x q));
        good = rw (ask_next net x q) g;
      }

  pub step : (x : State) → Good net x → (c : Call) (r : Reply c) → Promised (plan_at net x) c r → Stepped x c r
  step x g (change k c) r h = change_step x g k c r h
  step x g undo r h = undo_step x.capacity x.stack g r h
  step x g (ask q) r h = ask_step x g q r h
