-- Worked examples, by evaluation.
pub mod Readings
pub mod Results
