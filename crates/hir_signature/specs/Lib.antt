-- the parts of a generic parameter
pub mod Params
-- the model of generic parameters
pub mod Generics
-- the first parameter of a name
pub mod FirstOfName
-- the ids that a signature names, the nodes that it reaches, the first fault of its parts
pub mod Signatures
-- the result of a lookup of generic parameters
pub mod Lookups
-- the texts of faults of signatures
pub mod FaultTexts
-- what the files here import of std and of lower crates, from one place
pub mod Prelude
-- proofs that `==` decides whether two values are the same
pub mod same
