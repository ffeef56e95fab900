-- when a graph is a forest
pub mod Forest
-- the height of a node
pub mod Height
-- verdicts: predicates on the first fault
pub mod Verdict
-- the first fault of a graph and its roots
pub mod Faults
-- the lists of children, to which children are added
pub mod Rows
-- the parents of nodes, and chains of them
pub mod Parents
-- what only contracts within this crate cite
pub mod internal
-- proofs alone, of equality
pub mod same
