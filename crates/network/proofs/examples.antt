-- Worked examples, by evaluation.
pub mod Networks
