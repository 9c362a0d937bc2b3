-- Worked examples, by evaluation.
pub mod Listings
