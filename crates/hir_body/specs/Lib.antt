-- the model of a body, the nodes that it reaches, the first fault of its parts
pub mod Bodies
-- the result of a lookup of a body
pub mod Lookups
-- the texts of faults of bodies
pub mod FaultTexts
-- what the files here import of std and of lower crates, from one place
pub mod Prelude
-- what only contracts within this crate cite
pub mod internal
-- proofs that `==` decides whether two values are the same
pub mod same
