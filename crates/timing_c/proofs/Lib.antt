-- the archive's contract is the library's
pub mod Contracts
