-- definitions: what the function for timing gives
pub mod Timing
