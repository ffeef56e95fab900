-- What only contracts within this crate cite: how its code goes on, step by step.
pub mod Bodies
-- the parts that the refusal of a body gives back
pub mod RefusedBodies
