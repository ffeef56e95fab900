-- what the program writes and how it ends
pub mod Program
-- how a run ends, with the bytes that it leaves unread
pub mod Run
-- the answers to questions
pub mod Answer
-- what `print` writes
pub mod Printing
-- what lines have made so far
pub mod Parts
-- what is true at the end of a part of a run
pub mod Outcomes
-- why a run ends early, and its exit status
pub mod Faults
-- the text of each fault
pub mod Texts
-- what the files here import of std and of lower crates, from one place
pub mod Prelude
-- what only contracts within this crate cite
pub mod internal
