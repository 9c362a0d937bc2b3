-- Lemmas, for the proofs. Nothing here has to be believed.
pub mod ReadingLaws
pub mod RunLaws
pub mod ShownLaws
pub mod ShowsLaws
