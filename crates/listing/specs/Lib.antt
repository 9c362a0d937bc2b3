-- definitions: what is printed for a file
pub mod Listing
-- what is claimed of them
pub mod Shown
-- what the code's own parts promise
pub mod code
