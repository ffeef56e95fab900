-- the walk over a body, in the order in which scopes are made
pub mod Visits
-- the uses of a body, and the bindings that nothing uses
pub mod Usages
-- uses in groups: those of each binding
pub mod Groups
-- the names that are visible along a chain
pub mod Visible
-- the labels along a chain
pub mod Labels
-- the body in which a binding has a new name
pub mod Renamed
-- what a use resolves to after a rename, and the first fault
pub mod Renames
-- what a rename keeps, and what a conflict is
pub mod Kept
-- what the files here import of std and of lower crates, from one place
pub mod Prelude
-- what only contracts within this crate cite
pub mod internal
