-- the contracts are what demand 3 of a held plan is told of
pub mod Contracts
-- Theorems: what holds of the definitions of specs/.
pub mod theorems
-- Worked examples, by evaluation.
pub mod examples
