-- What only contracts within this crate cite: how its code goes on, step by step.
pub mod TestedParts
-- how calls change the visitor that also notes parents
pub mod Edges
-- how calls change the visitor that tests ids
pub mod Ranges
-- the model of a reference to such parts
pub mod TypeParts
