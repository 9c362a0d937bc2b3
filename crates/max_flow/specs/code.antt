-- What the contracts and invariants of single functions cite.
pub mod Residuals
pub mod Search
pub mod Ends
pub mod Scan
pub mod Push
pub mod LinkFlows
pub mod Send
pub mod Sender
pub mod Augment
