-- What the contracts and invariants of single functions cite.
pub mod Members
