-- definitions: decimal numbers, and tenths as twelve bytes
pub mod Text
-- what contracts of the code cite: the text filled from the right
pub mod code
