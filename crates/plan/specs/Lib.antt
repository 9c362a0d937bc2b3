-- definitions: the plan and its soundness, the calls, what is said of the lightest edge
pub mod Plan
pub mod Calls
-- what the calls' results are as replies
pub mod Results
pub mod Lightest
-- the tables of checks in words
pub mod Numbers
-- what contracts of the code cite
pub mod code
