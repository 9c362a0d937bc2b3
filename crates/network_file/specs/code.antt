-- Parts that only contracts of functions inside the crate use.
pub mod Rows
pub mod Parts
pub mod Writers
