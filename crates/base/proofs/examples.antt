-- Worked examples, by evaluation.
pub mod Tools
