-- Worked examples, by evaluation.
pub mod Readings
pub mod FlowA
pub mod Machines
pub mod Sample
