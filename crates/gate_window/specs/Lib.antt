-- definitions: the four characters; a record, its readings and their refusals; the machine that counts, runs, and what
-- is claimed of them
pub mod Shown
pub mod Reading
-- what a reading's result is as a reply
pub mod Results
pub mod Run
pub mod Machine
pub mod Claims
-- what the window shows, and the table of checks in words
pub mod Shows
pub mod Numbers
