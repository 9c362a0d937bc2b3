-- Theorems: what holds of the definitions of specs/.
pub mod Members
