-- Worked examples, by evaluation.
pub mod LeastCuts
pub mod GrowingFlows
