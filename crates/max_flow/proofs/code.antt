-- Lemmas on what contracts inside the crate cite.
pub mod Scan
pub mod Push
pub mod LinkFlows
pub mod Send
pub mod Augment
