-- What holds of the definitions of specs/WrongPrograms.antt.
use Rattle.std.specs.Prelude.{ℕ, ◌≡◌, refl, ◌≢◌, Bool, true, false, not, List, [], ◌∷◌, ◌++◌, length, replicate, ltb, eqb, pos, nat_abs}
use Rattle.std.proofs.Common.{sym, ap, ◌∙◌, arith, get_or-take, eqb-true}
use Rattle.node_set.specs.Set.{size}
use Rattle.base.specs.Sum.{sum}
use Rattle.min_cut.specs.Cut.{cut_value}
use Rattle.min_cut.specs.FirstWord.{first, least_min_cut}
use Rattle.base.specs.Word.{holds, word}
use Rattle.base.specs.Basics.{at, all, every, blank, among}
use Rattle.base.specs.Checks.{row, check, chain}
use Rattle.base.proofs.laws.BlankLaws.{zeros_at}
use Rattle.network.specs.Limits.{max_nodes, max_capacity}
use Rattle.network.specs.Network.{network_fits, WithinLimits, flow_at, total_of}
use Rattle.network.specs.declared.Network.{Network}
use Rattle.network_file.specs.Number.{read_groups, group_bytes}
use Rattle.network_file.specs.Reading.{taken, link_at, read_link, read_links, read_all, read_file}
use Rattle.network_file.specs.Writing.{link_bytes, file_of}
use Rattle.cut_tree.specs.Rule.{moved, stepped, rule_by, least_cut, rule, no_tree}
use Rattle.cut_tree.specs.Rebuild.{kept_by, kept_or_least_by, rebuilt_by, rebuilt, not_kept_by, not_kept}
use Rattle.cut_tree.specs.Path.{reaches, climb, lightest_of, lightest_on, side_of, answer, weight_of, node_of}
use Rattle.cut_tree.specs.LightestEdge.{lightest_among}
use Rattle.cut_tree.specs.Definition1.{CutTree}
use Rattle.cut_tree.specs.declared.Edge.{Edge}
use Rattle.cut_tree.specs.declared.Tree.{Tree}
use Rattle.cut_tree.specs.Path.{PairAnswer}
use Rattle.plan.specs.Plan.{max_depth, tree_fits, steps_fit, stack_fits, sound}
use Rattle.plan.specs.Calls.{open_of, change_number, altered, change_of, pair_number, pair_of, flow_number, write_number}
use Rattle.plan.specs.Calls.{write_of, written_to}
use Rattle.history.specs.Machine.{change, undo, flow, preview, State, begin, refusal, next, state, ask}
use Rattle.history.specs.Run.{Event, calls_of, Promised, plan_after, left}
use Rattle.history.specs.History.{AtCall, Replies, Reopens, Demand3}
use Rattle.history.proofs.theorems.Whole.{opens_every_network}
use Rattle.plan.proofs.examples.ResortA.{resort_a, network_a, plan_a, opening_A}
use Rattle.history.proofs.examples.FlowA.{eight, eight_lawful, eight_total}
use Rattle.plan.specs.declared.Plan.{Plan}
use Rattle.plan.specs.Calls.{Opening}
use Rattle.plan.specs.Calls.{Changed}
use Rattle.plan.specs.Calls.{PreviewReply}
use Rattle.history.specs.WrongPrograms.{asking, changing, leaving_the_edge, stacking, star_a, twice, works_once}

-- the fresh plan has all parents 0, where resort A's tree has parent 2
stale : (count : ℕ) → ¬ (Reopens (stacking plan_a 3 4 count).plan)
unfolding sum cut_value holds first least_min_cut all every blank network_fits read_groups group_bytes
    taken link_at read_link read_links read_all read_file link_bytes file_of moved stepped rule_by least_cut rule reaches
    tree_fits steps_fit stack_fits lightest_of lightest_among sound open_of write_number write_of written_to
stale count h =
    let e : ◌≡◌ {A = ℕ} 0 2 = ap (λ (t : Tree). at t.parent 3) (h (replicate 17 0) (omega arith)).1.tree in
    omega arith

pub leaves_the_tree : (count : ℕ) → ¬ (Demand3 plan_a (changing 3 4 (stacking plan_a 3 4 count) ∷ []))
unfolding left
leaves_the_tree count d = stale count d.reopened

-- its first reply is what a change promises
pub once_right : (count : ℕ) → Promised plan_a (change 3 4) (works_once plan_a 3 4 count)
once_right count = refl

-- but not over the list: of the second plan, with weights 8, 8 and 8, the fresh one has weight 6 at node 2
pub works_once_lem : (count : ℕ) → ¬ (Demand3 plan_a (twice count))
unfolding left sum cut_value holds first least_min_cut all every blank network_fits read_groups group_bytes
    taken link_at read_link read_links read_all read_file link_bytes file_of moved stepped rule_by least_cut rule
    kept_by kept_or_least_by rebuilt_by rebuilt reaches tree_fits steps_fit stack_fits lightest_of lightest_among sound open_of
    change_number altered change_of write_number write_of written_to
works_once_lem count d =
    let e : ◌≡◌ {A = ℕ} 6 8 =
    ap (λ (t : Tree). at t.weight 2) (d.reopened (replicate 17 0) (omega arith)).1.tree in
    omega arith

pub leaves_the_edge : ¬ (Demand3 plan_a (changing 3 4 (leaving_the_edge plan_a 3 4) ∷ []))
unfolding left sum cut_value holds first least_min_cut all every blank network_fits moved stepped rule_by least_cut rule
    kept_by kept_or_least_by rebuilt_by rebuilt reaches tree_fits steps_fit stack_fits lightest_of lightest_among sound
    change_number altered change_of
leaves_the_edge d =
    let e : ◌≡◌ {A = ℕ} 6 8 = ap (λ (x : Edge). x.weight) d.plan_left.lightest in
    omega arith

-- ---- a count of steps not got from the keeping rule: the change's own equation has another
pub counts_by_the_rule : (p : Plan) (k c : ℕ) (r : Changed) → Promised p (change k c) r → change_number p k c ≡ 0
    → r.count ≡ (rebuilt p.network p.steps k c).count
unfolding change_of altered
counts_by_the_rule p k c r h z = ap (λ (v : Changed). v.count) h ∙ rw z

-- P4: two steps are not kept, so neither none nor all three may be counted
pub counts_two : (r : Changed) → Promised plan_a (change 3 4) r → r.count ≡ 2
unfolding sum cut_value holds first least_min_cut all every blank network_fits moved stepped rule_by least_cut rule kept_by
    kept_or_least_by rebuilt_by rebuilt reaches tree_fits steps_fit stack_fits lightest_of lightest_among sound change_number
    altered change_of
counts_two r h = ap (λ (v : Changed). v.count) h

-- ---- 12 or 13 said over a half-filled stack: the plain machine has another number
-- what is claimed of a list is claimed of each of its calls
pub each_call : (net : Network) (before : List Event) (e : Event) (behind : List Event) (x : State) (p : Plan)
    → Replies net x p (before ++ e ∷ behind)
    → AtCall net (state net x (calls_of before)) (left p before) e.call e.reply
unfolding state left
each_call net [] e behind x p h = h.0
each_call net (b ∷ before) e behind x p h =
    each_call net before e behind (next net x b.call) (plan_after p b.call b.reply) h.1

check_12 : (m k c d : ℕ)
    → chain (row (not (ltb k m)) 10 ∷ row (ltb max_capacity c) 11 ∷ row (eqb d max_depth) 12 ∷ []) ≡ 12
    → eqb d max_depth ≡ true
check_12 m k c d = go (not (ltb k m)) (ltb max_capacity c) (eqb d max_depth)
  where
    go : (x y z : Bool) → check x 10 (check y 11 (check z 12 0)) ≡ 12 → z ≡ true
    go true y z e = absurd (omega arith)
    go false true z e = absurd (omega arith)
    go false false true e = refl
    go false false false e = absurd (omega arith)

pub twelve_when_full : (p : Plan) (before : List Event) (k c : ℕ) (r : Changed) (behind : List Event)
    → Demand3 p (before ++ changing k c r ∷ behind)
    → r.number ≡ 12 → length (state p.network (begin p.network) (calls_of before)).stack ≡ max_depth
unfolding refusal
twelve_when_full p before k c r behind d e =
    let x = state p.network (begin p.network) (calls_of before) in
    let h = each_call p.network before (changing k c r) behind (begin p.network) p d.replies in
    eqb-true _ _ (check_12 p.network.links k c (length x.stack) (sym h.number ∙ e))

check_13 : (b : Bool) → check b 13 0 ≡ 13 → b ≡ true
check_13 true e = refl
check_13 false e = absurd (omega arith)

pub thirteen_when_empty : (p : Plan) (before : List Event) (r : Changed) (behind : List Event)
    → Demand3 p (before ++ record { call = undo; reply = r } ∷ behind)
    → r.number ≡ 13 → length (state p.network (begin p.network) (calls_of before)).stack ≡ 0
unfolding refusal
thirteen_when_empty p before r behind d e =
    let x = state p.network (begin p.network) (calls_of before) in
    let h = each_call p.network before (record { call = undo; reply = r }) behind (begin p.network) p
    d.replies in
    eqb-true _ _ (check_13 (eqb (length x.stack) 0) (sym h.number ∙ e))

-- a lawful flow of total 8 is more than a pair's weight of 0
star_flow : Promised star_a (ask (flow 0 1 5)) (record { number = 0; before = replicate 5 (pos 0); behind = eight })
unfolding holds all every blank network_fits reaches tree_fits steps_fit stack_fits first lightest_of lightest_among sound
    flow_number
star_flow = (
  refl,
  record {
    number_is = refl;
    lawful = λ e. eight_lawful;
    total = λ e. eight_total.0 ∙ ap pos (sym eight_total.1);
    untouched = λ n. absurd (n refl);
  },
)

star_weight : weight_of (pair_of star_a 0 1) ≡ 0
unfolding sum holds first word all every blank network_fits reaches tree_fits steps_fit stack_fits lightest_among sound climb
    among lightest_on lightest_of side_of answer pair_number pair_of size
star_weight = refl

pub star_of_zeros : ¬ (Demand3 star_a [])
unfolding left
star_of_zeros d =
    let f : total_of network_a eight 0 ≡ pos (weight_of (pair_of star_a 0 1)) =
    (d.flows 0 1 (omega arith) (omega arith) (omega arith) _ star_flow).1.by_weight in
    let z : ◌≡◌ {A = ℕ} 8 0 = ap nat_abs (sym eight_total.0 ∙ f ∙ ap pos star_weight) in
    omega arith

-- and by the flow alone (demand 2): no cut tree of resort A has those weights, whatever its parents
pub no_cut_tree_of_zeros : (tree : Tree) → ((v : ℕ) → at tree.weight v ≡ 0) → ¬ (CutTree network_a tree)
no_cut_tree_of_zeros tree zeros c =
    let f = (c.equivalent_flow 0 1 (omega arith) (omega arith) (omega arith)).in_network.flow.1 in
    let most = f.greatest (flow_at eight) eight_lawful.lawful in
    (rw (eight_total.0, zeros (lightest_on tree 0 1)) at most).le

pub star_no_cut_tree : ¬ (CutTree network_a no_tree)
star_no_cut_tree = no_cut_tree_of_zeros no_tree (zeros_at max_nodes)

-- ---- an opening that turns every file down, and even one that turns down the file of one network within the limits
pub turns_one_down : (opening : List ℕ → Opening) (net : Network) → WithinLimits net → (opening (file_of net)).number ≢ 0
    → ¬ ((file : List ℕ) → opening file ≡ open_of file)
turns_one_down opening net w refuses h =
    refuses (ap (λ (o : Opening). o.number) (h (file_of net) ∙ opens_every_network net w))

pub turns_all_down : (opening : List ℕ → Opening) → ((file : List ℕ) → (opening file).number ≢ 0)
    → ¬ ((file : List ℕ) → opening file ≡ open_of file)
turns_all_down opening refuses h = refuses resort_a (ap (λ (o : Opening). o.number) (h resort_a ∙ opening_A))

-- ---- an undo of a link that was changed twice, to its opening capacity (3): the machine has the one before the second
-- change (1)
pub undoes_one : (r₁ r₂ r : Changed) → Demand3 plan_a (changing 1 1 r₁ ∷ changing 1 2 r₂ ∷ record {
  call = undo;
  reply = r;
} ∷ [])
    → at r.plan.network.capacity 1 ≡ 1
unfolding left state next refusal
undoes_one r₁ r₂ r d =
    sym (get_or-take 5 r.plan.network.capacity 1 0 (omega arith))
    ∙ ap (λ (cs : List ℕ). at cs 1) d.plan_left.capacity

pub shows_one_node : (r q : PairAnswer) → Demand3 plan_a (asking 3 1 r ∷ asking 1 3 q ∷ [])
    → (node_of r ≡ 2) × (node_of q ≡ 2)
unfolding refusal next sum cut_value holds first least_min_cut word moved stepped rule_by least_cut rule climb among
    lightest_on lightest_of side_of answer size
shows_one_node r q d =
    let here = d.replies.0 in
    let there = d.replies.1.0 in (
      ap node_of (here.if_accepted here.number).by_rule,
      ap node_of (there.if_accepted there.number).by_rule,
    )

-- ---- a preview that asks the pair of the plan before, of weight 6 for (1, 3), or counts what its undo would not keep,
-- three: P4's tree has weight 8 there, and two steps are not kept
pub previews_the_change : (r : PreviewReply) → Demand3 plan_a (record { call = ask (preview 3 4 1 3); reply = r } ∷ [])
    → (weight_of r.answer ≡ 8) × (r.count ≡ 2)
unfolding refusal next sum cut_value holds first least_min_cut word moved stepped rule_by least_cut rule kept_by kept_or_least_by
    not_kept_by not_kept climb among lightest_on lightest_of side_of answer size
previews_the_change r d =
    let here = d.replies.0 in
    let right = here.if_accepted here.number in
    (ap weight_of right.pair.by_rule, right.count.counted)
