-- the uses of variables in a closure's code
pub mod Uses
-- the captures of a closure
pub mod Captures
-- what the files here import of std and of lower crates, from one place
pub mod Prelude
-- what only contracts within this crate cite
pub mod internal
