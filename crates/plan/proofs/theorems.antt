-- Theorems: what holds of the definitions of specs/.
pub mod BothEnds
pub mod KeepsLightest
pub mod KeepsSound
pub mod Numbers
