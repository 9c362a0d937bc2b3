-- Lemmas, for the proofs. Nothing here has to be believed.
pub mod ShapeLaws
pub mod SoundLaws
pub mod WeightLaws
pub mod Tests
pub mod SoundFacts
pub mod AnswersLaws
pub mod FlowsLaws
pub mod ChangesLaws
pub mod PushLaws
pub mod AlteredLaws
pub mod PreviewLaws
pub mod FilesLaws
