-- Theorems: what holds of the definitions of specs/.
pub mod AnswerMinimum
pub mod BothEnds
pub mod KeepLemma
pub mod LightestCut
pub mod Rebuilds
pub mod RuleCutTree
pub mod SameEdge
