-- definitions: the plain machine, runs, what is claimed of them, lists without previews
pub mod Machine
pub mod Run
pub mod History
pub mod Previews
-- the wrong programs of the buyer's note
pub mod WrongPrograms
