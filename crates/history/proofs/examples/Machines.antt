-- The machine by worked examples on resort A.
use Rattle.std.specs.Prelude.{◌≡◌, refl, [], ◌∷◌, ◌++◌, replicate}
use Rattle.history.specs.Machine.{change, undo, pair, flow, preview, begin, refusal, next, state, numbers, ask}
use Rattle.plan.proofs.examples.ResortA.{network_a}

-- a change pushes also when the capacity is equal, so that the undo behind it leaves the first change
pub equal_pushes : state network_a (begin network_a) (change 1 1 ∷ change 1 1 ∷ undo ∷ [])
    ≡ record { capacity = 5 ∷ 1 ∷ 4 ∷ 2 ∷ 1 ∷ []; stack = record { link = 1; capacity = 3 } ∷ [] }
unfolding state next refusal
equal_pushes = refl

-- refused calls, pairs and flows alter nothing
pub others_leave : state network_a (begin network_a)
    (undo ∷ change 5 1 ∷ change 0 8000001 ∷ ask (pair 0 1) ∷ ask (pair 4 1) ∷ ask (flow 0 1 5) ∷ ask (flow 0 1 4) ∷ [])
    ≡ begin network_a
unfolding state next refusal
others_leave = refl

pub their_numbers : numbers network_a (begin network_a)
    (undo ∷ change 5 1 ∷ change 0 8000001 ∷ ask (pair 0 1) ∷ ask (pair 4 1) ∷ ask (flow 2 2 5) ∷ ask (flow 0 1 4) ∷ [])
    ≡ 13 ∷ 10 ∷ 11 ∷ 0 ∷ 14 ∷ 15 ∷ 16 ∷ []
unfolding numbers next refusal
their_numbers = refl

-- the highest capacity is taken, and one above it is refused
pub highest_capacity : numbers network_a (begin network_a) (change 0 8000000 ∷ change 0 8000001 ∷ []) ≡ 0 ∷ 11 ∷ []
unfolding numbers next refusal
highest_capacity = refl

-- previews alter nothing; the change's refusals come first, then the pair's
pub previews_leave : state network_a (begin network_a)
    (ask (preview 3 4 0 1) ∷ ask (preview 5 4 0 1) ∷ ask (preview 3 4 0 4) ∷ []) ≡ begin network_a
unfolding state next refusal
previews_leave = refl

pub preview_numbers : numbers network_a (begin network_a)
    (ask (preview 3 4 0 1) ∷ ask (preview 5 8000001 4 4) ∷ ask (preview 3 8000001 4 4) ∷ ask (preview 3 4 4 4)
    ∷ ask (preview 3 4 1 1) ∷ [])
    ≡ 0 ∷ 10 ∷ 11 ∷ 14 ∷ 15 ∷ []
unfolding numbers next refusal
preview_numbers = refl

-- the stack holds 64: full, it refuses a preview too, before its nodes are looked at
pub sixty_five : numbers network_a (begin network_a)
    (replicate 64 (change 0 7) ++ change 0 7 ∷ ask (preview 0 7 0 1) ∷ ask (preview 0 7 4 4) ∷ [])
    ≡ replicate 64 0 ++ 12 ∷ 12 ∷ 12 ∷ []
unfolding numbers next refusal
sixty_five = refl
