-- Lemmas, for the proofs. Nothing here has to be believed.
pub mod TextLaws
pub mod PlacedLaws
