-- Worked examples, by evaluation.
pub mod Texts
