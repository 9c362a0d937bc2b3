-- definitions: the limits, the refusal numbers, the network with its cuts and flows
pub mod Limits
pub mod Refusals
pub mod Network
-- what contracts of the code cite: each node's own arcs, the links one by one
pub mod code
