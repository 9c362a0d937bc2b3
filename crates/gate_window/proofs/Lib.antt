-- Theorems: what holds of the definitions of specs/.
pub mod theorems
-- Lemmas, for the proofs. Nothing here has to be believed.
pub mod laws
-- Worked examples, by evaluation.
pub mod examples
