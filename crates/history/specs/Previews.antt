-- Lists of calls with previews and without: "the past reads as if it weren't there".
use Rattle.std.specs.Prelude.{ℕ, ◌≡◌, Bool, true, false, List, [], ◌∷◌}
use Rattle.base.specs.Basics.{pick}
use Rattle.network.specs.declared.Network.{Network}
use Rattle.plan.specs.Calls.{preview_of}
use Rattle.plan.specs.declared.Plan.{Plan}
use Rattle.history.specs.Machine.{pair, flow, preview, Call, change, undo, ask, Entry, State, state}
use Rattle.history.specs.Run.{Event, calls_of, Run, left}
use Rattle.history.specs.History.{standing}

abbrev pub is_preview : Call → Bool
is_preview (change k c) = false
is_preview undo = false
is_preview (ask (pair s t)) = false
is_preview (ask (flow s t size)) = false
is_preview (ask (preview k c s t)) = true

-- a list without its previews: the other calls in their order, each with the reply that it had
unfoldable pub without_previews : List Event → List Event
without_previews [] = []
without_previews (e ∷ es) = let others = without_previews es in pick (is_preview e.call) others (e ∷ others)

-- ---- calls from the plan p, and others of which the same can be said
pub record SameFrom (p : Plan) (others es : List Event) : Type 0 where
  -- these are a run from p as well, each call with its reply
  pub run : Run p others
  -- it leaves the same plan
  pub plan : left p others ≡ left p es
  -- and the machine, from whatever state it began with, in the same state
  pub machine : (net : Network) (x : State) → state net x (calls_of others) ≡ state net x (calls_of es)
  -- the same changes stand
  pub changes : (ds : List Entry) → standing ds others ≡ standing ds es

-- a preview, with the reply that the plan gives
abbrev pub previewing : Plan → (k c s t : ℕ) → Event
previewing p k c s t = record { call = ask (preview k c s t); reply = preview_of p k c s t }
