-- what the code's own parts promise
pub mod Adds
