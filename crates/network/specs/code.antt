-- What the contracts and invariants of single functions cite.
pub mod ArcLinks
pub mod Incidence
pub mod Links
