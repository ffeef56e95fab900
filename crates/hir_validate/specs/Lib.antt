-- the sizes of arenas, ids in range, and the order of all nodes
pub mod Sizes
-- the nodes of a store, and their graph
pub mod Nodes
-- the parts of a node that are tested
pub mod TestedParts
-- the first fault of nodes with their roots
pub mod Faults
-- when a path, generic arguments or a bound fit a store
pub mod Fits
-- what holds of nodes and roots without a fault
pub mod Sound
-- recursion over a store
pub mod Recursion
-- what the files here import of std and of lower crates, from one place
pub mod Prelude
-- what only contracts within this crate cite
pub mod internal
-- proof that `==` decides whether the nodes of two stores are the same
pub mod same
