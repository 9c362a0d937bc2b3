-- Theorems: what holds of the definitions of specs/.
pub mod GusfieldStep
pub mod GusfieldTree
pub mod LeastCut
pub mod MaxFlow
pub mod StrongDuality
