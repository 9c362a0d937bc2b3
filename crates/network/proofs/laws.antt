-- Lemmas, for the proofs. Nothing here has to be believed.
pub mod NetworkLaws
pub mod ChangeLaws
pub mod ArcLinkLaws
pub mod IncidenceLaws
pub mod BlankWords
pub mod EachLink
pub mod RefusalLaws
pub mod LinkLaws
