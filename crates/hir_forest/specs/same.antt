-- Proofs alone, that `==` of each type decides whether two values are the same. They are in specs, since the
-- crates above cite them.
pub mod SameRoots
