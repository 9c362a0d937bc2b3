-- what contracts of the code cite: what each function does to the arrays
pub mod code
