-- definitions: networks, sides and their values, minimum cuts, the least one as a word, lawful flows
pub mod Cut
pub mod FirstWord
pub mod Lawful
-- what theorems are stated with: a saturating flow, the invariant of Gusfield's step
pub mod StrongDuality
pub mod GusfieldTree
-- what contracts of the code above cite: residual form, arcs
pub mod code
