-- Theorems: what holds of the definitions of specs/.
pub mod Front
pub mod Shown
