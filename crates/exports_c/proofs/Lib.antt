-- the archive's contracts are the library's
pub mod Contracts
