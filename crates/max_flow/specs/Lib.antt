-- definitions: the least minimum cut with its value, a lawful flow of the largest total, a flow while it grows
pub mod LeastCut
pub mod LargestFlow
pub mod GrowingFlow
-- what contracts of the code cite: residual capacities, search, push, sender, the augmenting loop
pub mod code
