-- Worked examples: a reading's result as a reply, in the numbers of the table of checks.
use Rattle.std.specs.Prelude.{◌≡◌, refl, Ok, Err, [], ◌∷◌, pos, negsuc}
use Rattle.network.specs.declared.refusals.Refusal.TheVariants.{SameNode, NotSound, TooManyReadings}
use Rattle.gate_window.specs.Results.{as_reply, as_updated}
use Rattle.gate_window.proofs.examples.Evening.{half, refused, three}

-- "-0.5"; refused, four spaces
pub replies : (as_reply (Ok (45 ∷ 48 ∷ 46 ∷ 53 ∷ [])) ≡ record { number = 0; text = 45 ∷ 48 ∷ 46 ∷ 53 ∷ [] })
    × (as_reply (Err SameNode) ≡ record { number = 15; text = 32 ∷ 32 ∷ 32 ∷ 32 ∷ [] })
    × (as_reply (Err NotSound) ≡ record { number = 19; text = 32 ∷ 32 ∷ 32 ∷ 32 ∷ [] })
replies = (refl, refl, refl)

-- the record that the reading left
pub noted : as_updated (three (pos 7) (negsuc 999) 0) (Ok (record {
  window = three (negsuc 4) (negsuc 4) 1;
  text = 45 ∷ 48 ∷ 46 ∷ 53 ∷ [];
}))
    ≡ record { window = three (negsuc 4) (negsuc 4) 1; reply = half }
noted = refl

-- refused, the record stays
pub refused_stays : as_updated (three (pos 7) (negsuc 999) 1000000) (Err TooManyReadings)
    ≡ record { window = three (pos 7) (negsuc 999) 1000000; reply = refused 20 }
refused_stays = refl
