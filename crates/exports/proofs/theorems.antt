-- Theorems: what holds of the definitions of specs/.
pub mod Held
pub mod HeldWindow
pub mod Unsound
