-- Lemmas, for the proofs. Nothing here has to be believed.
pub mod BitLaws
pub mod SizeLaws
pub mod LowestLaws
