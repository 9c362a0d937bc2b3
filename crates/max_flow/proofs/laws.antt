-- Lemmas, for the proofs. Nothing here has to be believed.
pub mod ResidualLaws
pub mod GrowthLaws
pub mod SearchLaws
