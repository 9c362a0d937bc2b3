-- Lemmas, for the proofs. Nothing here has to be believed.
pub mod Bools
pub mod SumLaws
pub mod Put
pub mod IntParts
pub mod WordLaws
pub mod BlankLaws
pub mod TestLaws
pub mod RangeLaws
pub mod ChecksLaws
pub mod ResultLaws
pub mod ListLaws
pub mod PutsLaws
