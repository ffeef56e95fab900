-- What only contracts within this crate cite: how its code goes on, step by step.
-- when a source map has nothing in its expression part
pub mod NoSources
