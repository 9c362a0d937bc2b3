-- Lemmas on what contracts inside the crate cite.
pub mod Residual
pub mod Arcs
