-- Worked examples, by evaluation.
pub mod Trees
pub mod Results
