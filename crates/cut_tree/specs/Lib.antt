-- definitions: Gusfield's rule, the rebuild with kept steps, the pair's path and answer, the lightest edge,
-- Definition 1
pub mod Rule
pub mod Rebuild
pub mod Path
-- what a pair's result is in numbers
pub mod Results
pub mod LightestEdge
pub mod Definition1
pub mod Answer
-- what the theorems on keeping steps are stated with
pub mod KeepLemma
pub mod Rebuilds
-- what contracts of the code cite
pub mod code
