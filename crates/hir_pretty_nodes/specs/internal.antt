-- What only contracts within this crate cite: how its code goes on, step by step.
pub mod Found
pub mod Names
pub mod Pieces
pub mod Steps
