-- Worked examples, by evaluation.
pub mod Cuts
