-- The calls (docs/SCOPE.md, 6) as functions on records, their refusals in the order of its table.
use Rattle.std.specs.Prelude.{ℕ, ◌-◌, ◌≡◌, ◌≢◌, not, List, [], ◌∷◌, length, replicate, ltb, eqb, ℤ, pos, ◌-ℤ◌}
use Rattle.std.proofs.lemmas.List.Edits.{sets}
use Rattle.base.specs.Basics.{at}
use Rattle.base.specs.Checks.{Row, row, chain, accepted}
use Rattle.network.specs.Limits.{max_capacity}
use Rattle.network.specs.Network.{with_capacity, min_cut_value, LawfulFlow, total_of}
use Rattle.network.specs.declared.Network.{Network}
use Rattle.network_file.specs.Reading.{read_file}
use Rattle.network_file.specs.Writing.{file_of}
use Rattle.network_file.specs.Reading.{Reading}
use Rattle.cut_tree.specs.Rule.{rule}
use Rattle.cut_tree.specs.Rebuild.{rebuilt}
use Rattle.cut_tree.specs.Path.{pair_rows, answer, weight_of}
use Rattle.cut_tree.specs.Path.{PairAnswer}
use Rattle.cut_tree.specs.Path.{Refused, Found}
use Rattle.network.specs.Refusals.{no_such_link, capacity_too_large, stack_full, nothing_to_undo, flow_length}
use Rattle.network.specs.Refusals.{demand_too_large, buffer_too_short, not_sound}
use Rattle.plan.specs.Plan.{max_depth, sound, push, pop, plan_of, no_stack, no_plan}
use Rattle.text.specs.Text.{text_width, text_of}
use Rattle.plan.specs.declared.Stack.{Stack}
use Rattle.plan.specs.declared.Plan.{Plan}
use Rattle.plan.specs.declared.HeadroomReply.{HeadroomReply}

-- ---- replies: a refusal number, or 0, and what comes with it
pub record Opening : Type 0 where
  pub number : ℕ
  pub place : ℕ
  pub plan : Plan

pub record Changed : Type 0 where
  pub number : ℕ
  pub count : ℕ
  pub plan : Plan

-- the number is the answer's
pub record PreviewReply : Type 0 where
  pub answer : PairAnswer
  pub count : ℕ

pub record Written : Type 0 where
  pub number : ℕ
  pub length : ℕ

-- the highest demand (the paper: need) of a headroom
abbrev pub max_demand : ℕ
max_demand = 1000000000

-- ---- opening
-- the plan of a network: the rule's tree with its lightest edge, the steps, and an empty stack
abbrev pub fresh : Network → Plan
fresh net = plan_of net (rule net).tree (rule net).steps no_stack

-- refused: number and place of the fault
abbrev pub not_opened : (place number : ℕ) → Opening
not_opened place number = record { number = number; place = place; plan = no_plan }

abbrev pub opened : Reading → Opening
opened r = accepted r.number (record { number = 0; place = 0; plan = fresh r.network }) (not_opened r.place)

unfoldable pub open_of : List ℕ → Opening
open_of file = opened (read_file file)

-- ---- change and undo (the paper: take-back)
-- every call on a plan, first
abbrev pub unsound : Plan → Row
unsound p = row (not (sound p)) not_sound

-- the checks of a change, and those that come after them
abbrev pub change_rows : Plan → (k c : ℕ) → List Row → List Row
change_rows p k c later =
    unsound p
    ∷ row (not (ltb k p.network.links)) no_such_link
    ∷ row (ltb max_capacity c) capacity_too_large
    ∷ row (eqb p.stack.depth max_depth) stack_full
    ∷ later

abbrev pub undo_rows : Plan → List Row
undo_rows p = unsound p ∷ row (eqb p.stack.depth 0) nothing_to_undo ∷ []

unfoldable pub change_number : Plan → ℕ → ℕ → ℕ
change_number p k c = chain (change_rows p k c [])

unfoldable pub undo_number : Plan → ℕ
undo_number p = chain (undo_rows p)

-- link k to capacity c, with the stack as given
unfoldable pub altered : Plan → ℕ → ℕ → Stack → Changed
altered p k c stack =
    let b = rebuilt p.network p.steps k c in
    record { number = 0; count = b.count; plan = plan_of (with_capacity p.network k c) b.tree b.steps stack }

abbrev pub unaltered : Plan → ℕ → Changed
unaltered p e = record { number = e; count = 0; plan = p }

-- an accepted change pushes the link and its capacity before
abbrev pub changed : Plan → ℕ → ℕ → Changed
changed p k c = altered p k c (push p.stack k (at p.network.capacity k))

-- an accepted undo is the same work towards the capacity on top of the stack
abbrev pub undone : Plan → Changed
undone p =
    let top = p.stack.depth - 1 in
    altered p (at p.stack.link top) (at p.stack.capacity top) (pop p.stack)

unfoldable pub change_of : Plan → ℕ → ℕ → Changed
change_of p k c = accepted (change_number p k c) (changed p k c) (unaltered p)

unfoldable pub undo_of : Plan → Changed
undo_of p = accepted (undo_number p) (undone p) (unaltered p)

-- ---- pair
-- the checks of a call for two nodes, and those that come after them
abbrev pub node_rows : Plan → (s t : ℕ) → List Row → List Row
node_rows p s t later = unsound p ∷ pair_rows p.network.nodes s t later

unfoldable pub pair_number : Plan → ℕ → ℕ → ℕ
pair_number p s t = chain (node_rows p s t [])

unfoldable pub pair_of : Plan → ℕ → ℕ → PairAnswer
pair_of p s t = accepted (pair_number p s t) (answer p.tree p.network.nodes s t) Refused

-- ---- preview (the paper: trial)
-- refused: a count of 0
abbrev pub no_preview : (number : ℕ) → PreviewReply
no_preview number = record { answer = Refused number; count = 0 }

-- a pair's answer, with a change's count
abbrev pub preview_by : PairAnswer → (count : ℕ) → PreviewReply
preview_by (Refused e) count = no_preview e
preview_by (Found w v side size) count = record { answer = Found w v side size; count = count }

-- "Its reply is the one a change followed by a pair call gives on a copy, with the count of steps not kept." A change
-- that is refused is not followed.
unfoldable pub preview_of : Plan → (k c s t : ℕ) → PreviewReply
preview_of p k c s t =
    let copy = change_of p k c in
    accepted copy.number (preview_by (pair_of copy.plan s t) copy.count) no_preview

-- its checks (docs/SCOPE.md, 8): the change's, then the pair's, of the plan that is given
abbrev pub preview_rows : Plan → (k c s t : ℕ) → List Row
preview_rows p k c s t = change_rows p k c (pair_rows p.network.nodes s t [])

unfoldable pub preview_number : Plan → (k c s t : ℕ) → ℕ
preview_number p k c s t = chain (preview_rows p k c s t)

-- ---- flow
abbrev pub flow_rows : Plan → (s t size : ℕ) → List Row
flow_rows p s t size = node_rows p s t (row (not (eqb size p.network.links)) flow_length ∷ [])

unfoldable pub flow_number : Plan → ℕ → ℕ → ℕ → ℕ
flow_number p s t size = chain (flow_rows p s t size)

-- what the flow call promises: its number, and the buffer before and after. Which lawful flow of that total it is, is
-- left open.
pub record Flowed (p : Plan) (s t : ℕ) (before : List ℤ) (number : ℕ) (behind : List ℤ) : Type 0 where
  pub number_is : number ≡ flow_number p s t (length before)
  pub lawful : number ≡ 0 → LawfulFlow p.network s t behind
  pub total : number ≡ 0 → total_of p.network behind s ≡ pos (min_cut_value p.network s t)
  pub untouched : number ≢ 0 → behind ≡ before

-- ---- headroom
-- the checks of a headroom, and those that come after them
abbrev pub headroom_rows : Plan → (s t demand : ℕ) → List Row → List Row
headroom_rows p s t demand later = node_rows p s t (row (ltb max_demand demand) demand_too_large ∷ later)

unfoldable pub headroom_number : Plan → ℕ → ℕ → ℕ → ℕ
headroom_number p s t demand = chain (headroom_rows p s t demand [])

abbrev pub headroom_by : ℤ → HeadroomReply
headroom_by z = record { number = 0; value = z; text = text_of z }

-- refused: 0 and spaces
abbrev pub no_headroom : (number : ℕ) → HeadroomReply
no_headroom number = record { number = number; value = pos 0; text = replicate text_width 32 }

-- the pair's weight less the demand
unfoldable pub headroom_of : Plan → ℕ → ℕ → ℕ → HeadroomReply
headroom_of p s t demand =
    let weight = weight_of (answer p.tree p.network.nodes s t) in
    accepted (headroom_number p s t demand) (headroom_by (pos weight -ℤ pos demand)) no_headroom

-- ---- writing: the reply, and the buffer behind it
abbrev pub write_rows : Plan → ℕ → List Row
write_rows p size = unsound p ∷ row (ltb size (length (file_of p.network))) buffer_too_short ∷ []

unfoldable pub write_number : Plan → ℕ → ℕ
write_number p size = chain (write_rows p size)

abbrev pub not_written : (number : ℕ) → Written
not_written number = record { number = number; length = 0 }

unfoldable pub write_of : Plan → ℕ → Written
write_of p size = accepted (write_number p size)
    (record { number = 0; length = length (file_of p.network) }) not_written

unfoldable pub written_to : Plan → List ℕ → List ℕ
written_to p buffer = accepted (write_number p (length buffer)) (sets buffer 0 (file_of p.network)) (λ e. buffer)
