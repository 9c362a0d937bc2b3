-- Lemmas, for the proofs. Nothing here has to be believed.
pub mod CutLaws
pub mod OutflowLaws
pub mod LawfulLaws
pub mod Augment
pub mod Uncross
pub mod GusfieldUncross
pub mod GusfieldPairs
pub mod FirstLaws
