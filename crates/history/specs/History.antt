-- Demand 3: what is claimed of every list of change, undo, pair, flow and preview calls from an accepted opening. One
-- claim, about the whole list.
use Rattle.std.specs.Prelude.{ℕ, ◌-◌, ◌≤◌, ◌<◌, ◌≡◌, ◌≢◌, true, false, length, take, set, ℤ, pos}
use Rattle.std.specs.Prelude.{List, [], ◌∷◌}
use mathlib.Core.List.{tail}
use Rattle.base.specs.Basics.{blank_from, among}
use Rattle.base.specs.Checks.{accepted}
use Rattle.network.specs.Network.{with_capacity, min_cut_value, LawfulFlow, total_of}
use Rattle.network.specs.declared.Network.{Network}
use Rattle.network_file.specs.Writing.{file_of}
use Rattle.cut_tree.specs.Rule.{rule}
use Rattle.cut_tree.specs.Rebuild.{not_kept}
use Rattle.cut_tree.specs.Path.{answer, number_of, weight_of}
use Rattle.cut_tree.specs.LightestEdge.{lightest_edge, NetworkCut}
use Rattle.cut_tree.specs.Definition1.{CutTree}
use Rattle.cut_tree.specs.Answer.{MinimumAnswer, LightestAnswer}
use Rattle.cut_tree.specs.Path.{PairAnswer}
use Rattle.cut_tree.specs.Path.{Refused}
use Rattle.plan.specs.Plan.{sound, no_stack}
use Rattle.plan.specs.Calls.{open_of, pair_of, no_preview, write_of, written_to}
use Rattle.plan.specs.Lightest.{LeastPair}
use Rattle.history.specs.Machine.{Query, pair, flow, preview, Call, change, undo, ask, Entry, State, begin, next}
use Rattle.history.specs.Machine.{state, numbers, number_at, network_at, stack_of}
use Rattle.history.specs.Run.{FlowReply, Answer, Reply, Event, number_in, calls_of, numbers_of, Answered, plan_after}
use Rattle.history.specs.Run.{left}
use Rattle.plan.specs.declared.Plan.{Plan}
use Rattle.plan.specs.Calls.{PreviewReply}

-- ---- a plan, and the machine beside it
-- q is what the opened network and the machine's state make it
pub record Agrees (net : Network) (x : State) (q : Plan) : Type 0 where
  -- nodes, links and ends as opened
  pub nodes : q.network.nodes ≡ net.nodes
  pub links : q.network.links ≡ net.links
  pub a : q.network.a ≡ net.a
  pub b : q.network.b ≡ net.b
  -- the machine's capacities, 0 in the places that no link uses, and the machine's stack
  pub capacity : take net.links q.network.capacity ≡ x.capacity
  pub unused : blank_from net.links q.network.capacity ≡ true
  pub stack : q.stack ≡ stack_of x.stack
  -- tree and steps by the rule on those capacities
  pub tree : q.tree ≡ (rule q.network).tree
  pub steps : q.steps ≡ (rule q.network).steps
  -- and that tree's lightest edge
  pub lightest : q.lightest ≡ lightest_edge q.network.nodes (rule q.network).tree
  -- sound, so that 19 is never given
  pub is_sound : sound q ≡ true

-- ---- accepted replies, for the network G at their call
-- the steps not kept as link k goes to capacity c, of the nodes 1 to n - 1
pub record RightCount (G : Network) (k c count : ℕ) : Type 0 where
  pub counted : count ≡ not_kept G k c
  pub most : count ≤ G.nodes - 1

-- the lightest edge on the path of the rule's tree, the lowest number among equals: its node's edge is on the path,
-- none there is lighter, and none as light has a lower number. Its side holds s and not t and has the weight as value,
-- no side that separates s from t has a smaller one, and its size is the number of nodes that the side holds.
pub record RightPair (G : Network) (s t : ℕ) (r : PairAnswer) : Type 0 where
  pub by_rule : r ≡ answer (rule G).tree G.nodes s t
  pub lightest : LightestAnswer (rule G).tree s t r
  pub minimum : MinimumAnswer G s t r

-- a lawful flow, whose total is the value of a minimum cut and the pair's weight
pub record RightFlow (G : Network) (s t weight : ℕ) (f : List ℤ) : Type 0 where
  pub lawful : LawfulFlow G s t f
  pub maximum : total_of G f s ≡ pos (min_cut_value G s t)
  pub by_weight : total_of G f s ≡ pos weight

-- the steps that the change would not keep, and the pair with that one link at its new capacity
pub record RightPreview (G : Network) (k c s t : ℕ) (r : PreviewReply) : Type 0 where
  pub count : RightCount G k c r.count
  pub pair : RightPair (with_capacity G k c) s t r.answer

-- the top of the stack, of a machine whose undo is accepted
abbrev pub top : List Entry → Entry
top [] = record { link = 0; capacity = 0 }
top (e ∷ es) = e

abbrev pub RightAnswer : Network → (q : Query) → Answer q → Type 0
RightAnswer G (pair s t) r = RightPair G s t r
RightAnswer G (flow s t size) r = RightFlow G s t (weight_of (answer (rule G).tree G.nodes s t)) r.behind
RightAnswer G (preview k c s t) r = RightPreview G k c s t r

abbrev pub Right : Network → List Entry → (c : Call) → Reply c → Type 0
Right G stack (change k c) r = RightCount G k c r.count
Right G stack undo r = RightCount G (top stack).link (top stack).capacity r.count
Right G stack (ask q) r = RightAnswer G q r

-- ---- refused replies: plan and buffer are as before, a count is 0, and a pair's answer has nothing but the number
abbrev pub NoAnswer : (q : Query) → Answer q → Type 0
NoAnswer (pair s t) r = r ≡ Refused (number_of r)
NoAnswer (flow s t size) r = r.behind ≡ r.before
NoAnswer (preview k c s t) r = r ≡ no_preview (number_of r.answer)

abbrev pub Unaltered : Plan → (c : Call) → Reply c → Type 0
Unaltered p (change k c) r = (r.plan ≡ p) × (r.count ≡ 0)
Unaltered p undo r = (r.plan ≡ p) × (r.count ≡ 0)
Unaltered p (ask q) r = NoAnswer q r

-- ---- one call of the list: the machine's state x at it, the plan p that it is given, and its reply
pub record AtCall (net : Network) (x : State) (p : Plan) (c : Call) (r : Reply c) : Type 0 where
  pub plan : Agrees net x p
  pub number : number_in c r ≡ number_at net x c
  pub if_accepted : number_in c r ≡ 0 → Right (network_at net x.capacity) x.stack c r
  pub if_refused : number_in c r ≢ 0 → Unaltered p c r

abbrev pub Replies : Network → State → Plan → List Event → Type 0
Replies net x p [] = Unit {0}
Replies net x p (e ∷ es) =
    AtCall net x p e.call e.reply × Replies net (next net x e.call) (plan_after p e.call e.reply) es

-- ---- accepted changes that are not undone, the newest first
abbrev pub stands : List Entry → Call → List Entry
stands ds (change k c) = record { link = k; capacity = c } ∷ ds
stands ds undo = tail ds
stands ds (ask q) = ds

unfoldable pub standing : List Entry → List Event → List Entry
standing ds [] = ds
standing ds (e ∷ es) = standing (accepted (number_in e.call e.reply) (stands ds e.call) (λ n. ds)) es

-- capacities with changes applied, the oldest first
unfoldable pub applied : List ℕ → List Entry → List ℕ
applied cs [] = cs
applied cs (d ∷ ds) = set (applied cs ds) d.link d.capacity

-- ---- opening a file gives the network, tree, steps and lightest edge of p, and an empty stack
pub record Opens (file : List ℕ) (p : Plan) : Type 0 where
  pub number : (open_of file).number ≡ 0
  pub place : (open_of file).place ≡ 0
  pub network : (open_of file).plan.network ≡ p.network
  pub tree : (open_of file).plan.tree ≡ p.tree
  pub steps : (open_of file).plan.steps ≡ p.steps
  pub lightest : (open_of file).plan.lightest ≡ p.lightest
  pub stack : (open_of file).plan.stack ≡ no_stack

-- the file that q's writing puts into any buffer that is long enough opens so
abbrev pub Reopens : Plan → Type 0
Reopens q =
    (buffer : List ℕ) → length (file_of q.network) ≤ length buffer
    → ((write_of q (length buffer)).number ≡ 0)
    × Opens (take (write_of q (length buffer)).length (written_to q buffer)) q

-- ---- the claim. p: the plan of the opening; q: the plan that the list leaves; x: the machine after the list
pub record Claims (p q : Plan) (x : State) (es : List Event) : Type 0 where
  -- the plan that is left: ends, capacities, stack, tree, steps, lightest edge, soundness
  pub plan_left : Agrees p.network x q
  -- the opening's capacities with each accepted change that is not undone, in order
  pub changes : q.network.capacity ≡ applied p.network.capacity (standing [] es)
  -- every acceptance or refusal number is the machine's, and 19 is not among them
  pub numbered : numbers_of es ≡ numbers p.network (begin p.network) (calls_of es)
  pub never_19 : among 19 (numbers_of es) ≡ false
  -- the replies along the list, each by the machine's capacities at its call
  pub replies : Replies p.network (begin p.network) p es
  -- opening the file then written gives a fresh plan that is equal but for the stack
  pub reopened : Reopens q
  -- the plan's tree is a cut tree of its network, and of every two nodes the pair call's reply is a minimum cut
  pub cut_tree : CutTree q.network q.tree
  pub pairs : (s t : ℕ) → s < q.network.nodes → t < q.network.nodes → s ≢ t
      → RightPair q.network s t (pair_of q s t)
  -- and a flow call with one place for each link is accepted, and its total is the pair's weight
  pub flows : (s t : ℕ) → s < q.network.nodes → t < q.network.nodes → s ≢ t → (r : FlowReply)
      → Answered q (flow s t q.network.links) r
      → (r.number ≡ 0) × RightFlow q.network s t (weight_of (pair_of q s t)) r.behind
  -- with two nodes or more its lightest edge is the network's own minimum cut: no side that is neither empty nor all
  -- nodes has a smaller value, no pair has a smaller weight, and some side and some pair have that one
  pub network_cut : 1 < q.network.nodes → NetworkCut q.network q.lightest.weight
  pub least_pair : 1 < q.network.nodes → LeastPair q q.lightest.weight

abbrev pub Demand3 : Plan → List Event → Type 0
Demand3 p es = Claims p (left p es) (state p.network (begin p.network) (calls_of es)) es
