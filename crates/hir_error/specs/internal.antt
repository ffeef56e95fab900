-- What only contracts within this crate cite: how its code goes on, step by step.
-- private clauses alone: what a visitor leaves
pub mod Finding
