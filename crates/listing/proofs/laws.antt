-- Lemmas, for the proofs. Nothing here has to be believed.
pub mod LineLaws
pub mod LinesLaws
pub mod AddsLaws
pub mod LengthLaws
pub mod ListedLaws
