-- What only contracts within this crate cite: how its code goes on, step by step.
pub mod Answer
pub mod Parts
pub mod Printing
pub mod Texts
pub mod OfLines
pub mod Output
pub mod RunStates
pub mod Stages
