-- Worked examples, by evaluation.
pub mod Evening
pub mod Windows
pub mod Results
