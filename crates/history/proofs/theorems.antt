-- Theorems: what holds of the definitions of specs/.
pub mod AsIfAbsent
pub mod Whole
pub mod WrongPrograms
