-- Lemmas, for the proofs. Nothing here has to be believed.
pub mod StackLaws
pub mod MachineLaws
pub mod PreviewLaws
pub mod PlanAt
pub mod HistoryLaws
pub mod Standing
pub mod HistoryProof
