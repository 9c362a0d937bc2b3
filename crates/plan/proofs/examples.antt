-- Worked examples, by evaluation.
pub mod ResortA
pub mod Replies
pub mod Soundness
pub mod Results
