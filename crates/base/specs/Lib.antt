-- definitions: tests, sums, words of bits, rows of checks and what they mean
pub mod Basics
pub mod Sum
pub mod Word
pub mod Checks
pub mod Conditions
-- what contracts of single functions cite
pub mod code
