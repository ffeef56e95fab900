-- the ids of nodes
pub mod NodeIds
-- ids that are of an expression or of a pattern
pub mod Ids
-- the codes of such ids as keys of tables
pub mod Keys
-- lists without their last members
pub mod Lists
-- the segments of a path, and cuts of them
pub mod Segments
-- the parts of a path, its qualifier, and when it is `Self`
pub mod Paths
-- proofs alone, of equality
pub mod same
