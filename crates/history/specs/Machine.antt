-- "The history as a plain machine". It sees of a call its arguments, and of a flow's buffer only the length: that is
-- what a `Call` is.
use Rattle.std.specs.Prelude.{ℕ, ◌-◌, not, List, [], ◌∷◌, ◌++◌, length, take, set, replicate, ltb, eqb}
use Rattle.base.specs.Basics.{at}
use Rattle.base.specs.Checks.{Row, row, chain, accepted}
use Rattle.network.specs.Limits.{max_links, max_capacity}
use Rattle.network.specs.Refusals.{no_such_link, capacity_too_large, stack_full, nothing_to_undo, flow_length}
use Rattle.network.specs.declared.Network.{Network}
use Rattle.cut_tree.specs.Path.{pair_rows}
use Rattle.plan.specs.Plan.{max_depth, no_stack, push}
use Rattle.plan.specs.declared.Stack.{Stack}

-- a call that leaves the plan as it is
pub data Query : Type 0 where
  pair : (s t : ℕ) → Query
  flow : (s t size : ℕ) → Query
  preview : (link capacity s t : ℕ) → Query

pub data Call : Type 0 where
  change : (link capacity : ℕ) → Call
  undo : Call
  ask : Query → Call

-- a link and a capacity of it
pub record Entry : Type 0 where
  pub link : ℕ
  pub capacity : ℕ

-- the m capacities, and the stack with its top first
pub record State : Type 0 where
  pub capacity : List ℕ
  pub stack : List Entry

abbrev pub begin : Network → State
begin net = record { capacity = take net.links net.capacity; stack = [] }

-- the table of checks, from n, m, the machine's own state and the arguments; of a change with those that come after
-- them
abbrev pub change_rows : ℕ → State → (k c : ℕ) → List Row → List Row
change_rows m x k c later =
    row (not (ltb k m)) no_such_link
    ∷ row (ltb max_capacity c) capacity_too_large
    ∷ row (eqb (length x.stack) max_depth) stack_full
    ∷ later

abbrev pub query_rows : ℕ → ℕ → State → Query → List Row
query_rows n m x (pair s t) = pair_rows n s t []
query_rows n m x (flow s t size) = pair_rows n s t (row (not (eqb size m)) flow_length ∷ [])
query_rows n m x (preview k c s t) = change_rows m x k c (pair_rows n s t [])

abbrev pub call_rows : ℕ → ℕ → State → Call → List Row
call_rows n m x (change k c) = change_rows m x k c []
call_rows n m x undo = row (eqb (length x.stack) 0) nothing_to_undo ∷ []
call_rows n m x (ask q) = query_rows n m x q

unfoldable pub refusal : ℕ → ℕ → State → Call → ℕ
refusal n m x call = chain (call_rows n m x call)

-- the number that it gives a call: 0, accepted, or the refusal's
abbrev pub number_at : Network → State → Call → ℕ
number_at net x call = refusal net.nodes net.links x call

abbrev pub popped : List ℕ → List Entry → State
popped capacity [] = record { capacity = capacity; stack = [] }
popped capacity (e ∷ es) = record { capacity = set capacity e.link e.capacity; stack = es }

-- an accepted call
abbrev pub moves : State → Call → State
moves x (change k c) =
    record { capacity = set x.capacity k c; stack = record { link = k; capacity = at x.capacity k } ∷ x.stack }
moves x undo = popped x.capacity x.stack
moves x (ask q) = x

unfoldable pub next : Network → State → Call → State
next net x call = accepted (number_at net x call) (moves x call) (λ e. x)

-- after a list of calls, and the numbers that it gives
unfoldable pub state : Network → State → List Call → State
state net x [] = x
state net x (c ∷ cs) = state net (next net x c) cs

unfoldable pub numbers : Network → State → List Call → List ℕ
numbers net x [] = []
numbers net x (c ∷ cs) = number_at net x c ∷ numbers net (next net x c) cs

-- ---- the machine's state as the plan's arrays: unused places are 0
abbrev pub padded : List ℕ → List ℕ
padded xs = xs ++ replicate (max_links - length xs) 0

-- the opened network at the machine's capacities
abbrev pub network_at : Network → List ℕ → Network
network_at net capacity = record {
  nodes = net.nodes;
  links = net.links;
  a = net.a;
  b = net.b;
  capacity = padded capacity;
}

unfoldable pub stack_of : List Entry → Stack
stack_of [] = no_stack
stack_of (e ∷ es) = push (stack_of es) e.link e.capacity
