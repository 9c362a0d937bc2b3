-- A run: a list of change, undo, pair, flow and preview calls with their replies. "The first call is given the plan of
-- the opening. Each later one is given the plan that the call before it gave back, or was itself given if it gives none
-- back." The list may be empty.
use Rattle.std.specs.Prelude.{ℕ, ◌≡◌, List, [], ◌∷◌, map, length, ℤ}
use Rattle.cut_tree.specs.Path.{number_of}
use Rattle.cut_tree.specs.Path.{PairAnswer}
use Rattle.plan.specs.Calls.{change_of, undo_of, pair_of, preview_of, Flowed}
use Rattle.history.specs.Machine.{Query, pair, flow, preview, Call, change, undo, ask}
use Rattle.plan.specs.declared.Plan.{Plan}
use Rattle.plan.specs.Calls.{Changed}
use Rattle.plan.specs.Calls.{PreviewReply}

-- ---- calls and replies
-- the flow call's number, with its buffer before and behind it
pub record FlowReply : Type 0 where
  pub number : ℕ
  pub before : List ℤ
  pub behind : List ℤ

abbrev pub Answer : Query → Type 0
Answer (pair s t) = PairAnswer
Answer (flow s t size) = FlowReply
Answer (preview k c s t) = PreviewReply

abbrev pub Reply : Call → Type 0
Reply (change k c) = Changed
Reply undo = Changed
Reply (ask q) = Answer q

pub record Event : Type 0 where
  pub call : Call
  pub reply : Reply call

-- a reply's number: 0 for an accepted call
abbrev pub answer_number : (q : Query) → Answer q → ℕ
answer_number (pair s t) r = number_of r
answer_number (flow s t size) r = r.number
answer_number (preview k c s t) r = number_of r.answer

abbrev pub number_in : (c : Call) → Reply c → ℕ
number_in (change k c) r = r.number
number_in undo r = r.number
number_in (ask q) r = answer_number q r

abbrev pub calls_of : List Event → List Call
calls_of = map (λ e. e.call)

abbrev pub numbers_of : List Event → List ℕ
numbers_of = map (λ e. number_in e.call e.reply)

-- ---- the run
-- what the contract of the function that is called promises, and nothing else
abbrev pub Answered : Plan → (q : Query) → Answer q → Type 0
Answered p (pair s t) r = r ≡ pair_of p s t
Answered p (flow s t size) r = (length r.before ≡ size) × Flowed p s t r.before r.number r.behind
Answered p (preview k c s t) r = r ≡ preview_of p k c s t

abbrev pub Promised : Plan → (c : Call) → Reply c → Type 0
Promised p (change k c) r = r ≡ change_of p k c
Promised p undo r = r ≡ undo_of p
Promised p (ask q) r = Answered p q r

-- the plan that the next call is given
abbrev pub plan_after : Plan → (c : Call) → Reply c → Plan
plan_after p (change k c) r = r.plan
plan_after p undo r = r.plan
plan_after p (ask q) r = p

abbrev pub Run : Plan → List Event → Type 0
Run p [] = Unit {0}
Run p (e ∷ es) = Promised p e.call e.reply × Run (plan_after p e.call e.reply) es

-- the plan that the list leaves
unfoldable pub left : Plan → List Event → Plan
left p [] = p
left p (e ∷ es) = left (plan_after p e.call e.reply) es

-- "A plan is reached from its opening if such a list leaves it."
pub record Reached (p q : Plan) : Type 0 where
  pub events : List Event
  pub run : Run p events
  pub leaves : left p events ≡ q
