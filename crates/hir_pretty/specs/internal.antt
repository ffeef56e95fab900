-- What only contracts within this crate cite: how its code goes on, step by step.
pub mod AddedDocs
