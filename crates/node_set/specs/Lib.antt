-- definitions: sets of nodes as words
pub mod Set
-- what contracts of the code cite: the nodes of a set one by one
pub mod code
