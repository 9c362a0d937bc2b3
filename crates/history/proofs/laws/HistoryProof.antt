-- Demand 3, by induction over the list of calls.
use Rattle.std.specs.Prelude.{◌≡◌, refl, ◌≢◌, true, not, ℕ, ◌+◌, ◌-◌, ◌<◌, drop, replicate, eqb, List, [], ◌∷◌, ◌++◌}
use Rattle.std.proofs.Math.Path.{sym, ap, ap₂, subst}
use Rattle.std.proofs.Common.{◌∙◌, arith, length-drop, take-append-drop, length-take-le, lt-ltb, le-ltb, eq-eqb, ne_eqb}
use Rattle.std.proofs.Math.ListN.{length, take}
use Rattle.std.proofs.lemmas.List.Edits.{sets, sets-eq}
use Rattle.std.proofs.Math.Seq.{take-append_seam}
use Rattle.base.specs.Basics.{blank, among}
use Rattle.base.proofs.laws.TestLaws.{shown, head, rest}
use Rattle.base.specs.Checks.{row, chain}
use Rattle.network.specs.Limits.{max_links}
use Rattle.network.specs.Network.{network_fits, WithinLimits}
use Rattle.network.proofs.laws.NetworkLaws.{links_le}
use Rattle.network.specs.declared.Network.{Network}
use Rattle.network_file.specs.Writing.{file_of}
use Rattle.network_file.proofs.laws.FileLaws.{round_trip}
use Rattle.cut_tree.specs.Rule.{rule}
use Rattle.cut_tree.proofs.theorems.RuleCutTree.{rule_cut_tree}
use Rattle.cut_tree.specs.Path.{pair_rows, answer, weight_of}
use Rattle.cut_tree.specs.LightestEdge.{lightest_edge, NetworkCut}
use Rattle.cut_tree.proofs.theorems.LightestCut.{lightest_cut}
use Rattle.plan.proofs.theorems.KeepsLightest.{least_pair}
use Rattle.plan.proofs.laws.SoundFacts.{sound_climbs}
use Rattle.plan.proofs.laws.AnswersLaws.{pair_found}
use Rattle.plan.specs.Plan.{no_stack}
use Rattle.plan.specs.Calls.{fresh, opened, open_of, pair_of, write_number, write_of, written_to}
use Rattle.history.specs.Machine.{flow, State, begin, refusal, next, state, numbers, padded, network_at, stack_of}
use Rattle.history.specs.Run.{FlowReply, Event, calls_of, numbers_of, Answered, Run, left}
use Rattle.history.specs.History.{RightPair, RightFlow, Replies, Opens, Reopens, Claims, Demand3}
use Rattle.history.proofs.laws.MachineLaws.{never}
use Rattle.history.proofs.laws.PlanAt.{plan_at, Good, sound_at}
use Rattle.history.proofs.laws.HistoryLaws.{agrees_at, pair_right, flow_replied, step}
use Rattle.history.proofs.laws.Standing.{stood}
use Rattle.plan.specs.declared.Plan.{Plan}
use Rattle.plan.specs.Calls.{Opening}
use Rattle.base.proofs.laws.BlankLaws.{blank_is}

module _ (net : Network) where
  -- ---- the list: the plan that it leaves is that of the machine's state after it
  pub record Along (x : State) (es : List Event) : Type 0 where
    pub plan : left (plan_at net x) es ≡ plan_at net (state net x (calls_of es))
    pub good : Good net (state net x (calls_of es))
    pub numbered : numbers_of es ≡ numbers net x (calls_of es)
    pub replies : Replies net x (plan_at net x) es

  along : (es : List Event) (x : State) → Good net x → Run (plan_at net x) es → Along x es
  unfolding left state numbers
  along [] x g h = record { plan = refl; good = g; numbered = refl; replies = tt }
  along (e ∷ es) x g h =
      let st = step net x g e.call e.reply h.0 in
      let ih = along es (next net x e.call) st.good (subst (λ (p : Plan). Run p es) st.plan h.1) in
      record {
        plan = ap (λ (p : Plan). left p es) st.plan ∙ ih.plan;
        good = ih.good;
        numbered = ap₂ (λ (n : ℕ) (ns : List ℕ). n ∷ ns) st.right.number ih.numbered;
        replies = (st.right, subst (λ (p : Plan). Replies net (next net x e.call) p es) (sym st.plan) ih.replies);
      }

  -- ---- the plan of a state: every pair, every flow, the file then written
  module _ (x : State) (g : Good net x) where
    pair_is : (s t : ℕ) → s < net.nodes → t < net.nodes → s ≢ t
        → pair_of (plan_at net x) s t ≡ answer (rule (network_at net x.capacity)).tree net.nodes s t
    pair_is s t = pair_found (plan_at net x) s t (sound_at net x g)

    pairs_at : (s t : ℕ) → s < net.nodes → t < net.nodes → s ≢ t → RightPair (network_at net x.capacity) s t (pair_of (plan_at net x) s t)
    pairs_at s t sl tl d = rw (pair_is s t sl tl d) (pair_right net (network_at net x.capacity) g.within s t sl tl d)

    flows_at : (s t : ℕ) → s < net.nodes → t < net.nodes → s ≢ t → (r : FlowReply) → Answered (plan_at net x) (flow s t net.links) r
        → (r.number ≡ 0) × RightFlow (network_at net x.capacity) s t (weight_of (pair_of (plan_at net x) s t)) r.behind
    unfolding refusal
    flows_at s t sl tl d r h =
        let a = flow_replied net x g s t net.links r h in
        let z : chain (pair_rows net.nodes s t (row (not (eqb net.links net.links)) 16 ∷ [])) ≡ 0 =
        rw (lt-ltb s net.nodes sl, lt-ltb t net.nodes tl, ne_eqb s t d, eq-eqb net.links net.links refl) in
        let n : r.number ≡ 0 = a.number ∙ z in
        (n, rw (pair_is s t sl tl d) (a.if_accepted n))

    cut_at : 1 < net.nodes → NetworkCut (network_at net x.capacity) (plan_at net x).lightest.weight
    cut_at =
        let G = network_at net x.capacity in
        lightest_cut G (rule G).tree (rule_cut_tree G g.within) (sound_climbs (plan_at net x) (sound_at net x g))

    opens : Opens (file_of (network_at net x.capacity)) (plan_at net x)
    unfolding open_of
    opens =
        let o : open_of (file_of (network_at net x.capacity)) ≡ record {
          number = 0;
          place = 0;
          plan = fresh (network_at net x.capacity);
        } =
        ap opened (round_trip (network_at net x.capacity) g.within) in
        record {
          number = ap (λ (v : Opening). v.number) o;
          place = ap (λ (v : Opening). v.place) o;
          network = ap (λ (v : Opening). v.plan.network) o;
          tree = ap (λ (v : Opening). v.plan.tree) o;
          steps = ap (λ (v : Opening). v.plan.steps) o;
          lightest = ap (λ (v : Opening). v.plan.lightest) o;
          stack = ap (λ (v : Opening). v.plan.stack) o;
        }

    reopened_at : Reopens (plan_at net x)
    unfolding write_of written_to write_number
    reopened_at buffer l =
        let file = file_of (network_at net x.capacity) in
        let z : write_number (plan_at net x) (length buffer) ≡ 0 = rw (sound_at net x g, le-ltb (length buffer) (length file) l) in
        let e : take (length file) (sets buffer 0 file) ≡ file =
        ap (take (length file)) (sets-eq file buffer 0 (omega arith)) ∙ take-append_seam file (drop (0 + length file) buffer) in
        rw (z, e) (refl, opens)

-- ---- from the opening
module _ (net : Network) (w : WithinLimits net) where
  unused : blank (drop net.links net.capacity) ≡ true
  unfolding network_fits
  unused = head (rest (rest (rest (rest (rest (rest (shown _ w.fits)))))))

  many : length (take net.links net.capacity) ≡ net.links
  many = length-take-le net.links net.capacity (omega (arith, links_le net w.fits, w.sized.capacity))

  same_capacity : padded (take net.links net.capacity) ≡ net.capacity
  same_capacity =
      let n : max_links - length (take net.links net.capacity) ≡ length (drop net.links net.capacity) =
      omega (arith, many, length-drop net.links net.capacity, w.sized.capacity) in
      ap (λ (n : ℕ). take net.links net.capacity ++ replicate n 0) n
      ∙ ap (λ (l : List ℕ). take net.links net.capacity ++ l) (sym (blank_is (drop net.links net.capacity) unused))
      ∙ take-append-drop net.links net.capacity

  begin_network : network_at net (take net.links net.capacity) ≡ net
  begin_network = λ i. record { nodes = net.nodes; links = net.links; a = net.a; b = net.b; capacity = same_capacity i }

  begin_good : Good net (begin net)
  begin_good = record { long = many; within = rw begin_network w; entries = tt; deep = omega arith }

  begin_plan : fresh net ≡ plan_at net (begin net)
  unfolding stack_of
  begin_plan = λ i. record {
    network = sym begin_network i;
    tree = (rule (sym begin_network i)).tree;
    steps = (rule (sym begin_network i)).steps;
    stack = no_stack;
    lightest = lightest_edge net.nodes (rule (sym begin_network i)).tree;
  }

  module _ (es : List Event) (h : Run (fresh net) es) where
    run : Run (plan_at net (begin net)) es
    run = subst (λ (p : Plan). Run p es) begin_plan h

    al : Along net (begin net) es
    al = along net es (begin net) begin_good run

    ends : left (fresh net) es ≡ plan_at net (state net (begin net) (calls_of es))
    ends = ap (λ (p : Plan). left p es) begin_plan ∙ al.plan

    claims : Claims (fresh net) (plan_at net (state net (begin net) (calls_of es))) (state net (begin net) (calls_of es)) es
    claims =
        let x = state net (begin net) (calls_of es) in
        let g = al.good in
        record {
          plan_left = agrees_at net x g;
          changes = stood net net.capacity es (begin net) begin_good run [] same_capacity;
          numbered = al.numbered;
          never_19 = ap (among 19) al.numbered ∙ never net (calls_of es) (begin net);
          replies = subst (λ (p : Plan). Replies net (begin net) p es) (sym begin_plan) al.replies;
          reopened = reopened_at net x g;
          cut_tree = rule_cut_tree (network_at net x.capacity) g.within;
          pairs = pairs_at net x g;
          flows = flows_at net x g;
          network_cut = cut_at net x g;
          least_pair = least_pair (plan_at net x) (sound_at net x g);
        }

    pub history_fresh : Demand3 (fresh net) es
    history_fresh = rw ends claims
