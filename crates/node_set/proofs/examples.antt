-- Worked examples, by evaluation.
pub mod Sets
