-- definitions: numbers, reading, writing, and the faults of a file apart from any reader
pub mod Number
pub mod Reading
pub mod Writing
-- what results of the code are in numbers
pub mod Results
pub mod Faults
-- what is claimed: one file for a network, refusals exactly for faults, a front that is enough
pub mod Files
-- what contracts of the code cite
pub mod code
