-- the model of a builder: its nodes, the store that it becomes, its first fault
pub mod Building
-- what the files here import of std and of lower crates, from one place
pub mod Prelude
-- proof that `==` of builders decides whether they have the same
pub mod same
