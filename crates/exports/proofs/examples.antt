-- Worked examples, by evaluation.
pub mod Gate
pub mod Life
