-- Worked examples: the calls' results as replies, in the numbers of the table of checks.
use Rattle.std.specs.Prelude.{◌≡◌, refl, Ok, Err, [], ◌∷◌, replicate, pos, negsuc}
use Rattle.network.specs.declared.refusals.Refusal.TheVariants.{EqualEnds, NoSuchLink, StackFull, NothingToUndo, NoSuchNode}
use Rattle.network.specs.declared.refusals.Refusal.TheVariants.{DemandTooLarge, BufferTooShort, NotSound}
use Rattle.cut_tree.specs.Path.{Refused, Found}
use Rattle.plan.specs.Plan.{no_plan}
use Rattle.plan.specs.Results.{as_opening, as_changed, as_preview, as_headroom, as_written}
use Rattle.plan.proofs.examples.ResortA.{plan_a}

-- refused, the number, the place and the plan of zeros
pub openings : (as_opening (Ok plan_a) ≡ record { number = 0; place = 0; plan = plan_a })
    × (as_opening (Err (record { refusal = EqualEnds; place = 3 })) ≡ record { number = 7; place = 3; plan = no_plan })
openings = (refl, refl)

-- accepted, the plan that the call left, and how many steps were not kept
pub changed : as_changed no_plan (Ok (record { plan = plan_a; count = 2 })) ≡ record { number = 0; count = 2; plan = plan_a }
changed = refl

-- refused, the plan stays and the count is 0
pub unchanged : (as_changed plan_a (Err NoSuchLink) ≡ record { number = 10; count = 0; plan = plan_a })
    × (as_changed plan_a (Err NothingToUndo) ≡ record { number = 13; count = 0; plan = plan_a })
unchanged = (refl, refl)

pub previews : (as_preview (Ok (record { pair = record { weight = 8; node = 1; side = 13; size = 3 }; count = 2 }))
    ≡ record { answer = Found 8 1 13 3; count = 2 })
    × (as_preview (Err StackFull) ≡ record { answer = Refused 12; count = 0 })
    × (as_preview (Err NoSuchNode) ≡ record { answer = Refused 14; count = 0 })
previews = (refl, refl, refl)

-- half a megabit short, "-0.5"; refused, 0 and twelve spaces
pub headrooms : (as_headroom (Ok (record {
  value = negsuc 4;
  text = 32 ∷ 32 ∷ 32 ∷ 32 ∷ 32 ∷ 32 ∷ 32 ∷ 32 ∷ 45 ∷ 48 ∷ 46 ∷ 53 ∷ [];
}))
    ≡ record { number = 0; value = negsuc 4; text = 32 ∷ 32 ∷ 32 ∷ 32 ∷ 32 ∷ 32 ∷ 32 ∷ 32 ∷ 45 ∷ 48 ∷ 46 ∷ 53 ∷ [] })
    × (as_headroom (Err DemandTooLarge) ≡ record { number = 17; value = pos 0; text = replicate 12 32 })
headrooms = (refl, refl)

pub lengths : (as_written (Ok 17) ≡ record { number = 0; length = 17 })
    × (as_written (Err BufferTooShort) ≡ record { number = 18; length = 0 })
    × (as_written (Err NotSound) ≡ record { number = 19; length = 0 })
lengths = (refl, refl, refl)
