-- Lemmas, for the proofs. Nothing here has to be believed.
pub mod NumberLaws
pub mod LengthLaws
pub mod Taking
pub mod Filling
pub mod Told
pub mod RoundTrip
pub mod FileLaws
pub mod WiderLaws
pub mod LowLaws
pub mod FaultLaws
pub mod FrontLaws
pub mod NumberSteps
pub mod ReadingSteps
pub mod LinksSteps
pub mod WritingSteps
