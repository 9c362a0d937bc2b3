-- Theorems: what holds of the definitions of specs/.
pub mod Numbers
pub mod Whole
