-- Worked examples, by evaluation.
pub mod Hints
