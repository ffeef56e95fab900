-- owners of bindings, hygiene of paths, blocks that may hold items
pub mod SideTables
-- the model of a store: its contents, and what an accepted store promises
pub mod Contents
-- the descendants of a node, and the nodes that are reached from entry nodes
pub mod Under
-- the parent of a node, its ancestors, and what encloses it
pub mod Ancestors
-- the loop or block that a `break` or a `continue` leaves
pub mod JumpTargets
-- the patterns, bindings and expressions of a pattern, and the children of an expression
pub mod PatLists
-- the root that an id was made for
pub mod RootSearch
-- sets of nodes
pub mod NodeSets
-- the blocks with the maps of their items
pub mod Blocks
-- the path of a bound
pub mod Bounds
-- the text of a missing fact
pub mod MissingTexts
-- walks that stop at the first refusal
pub mod Tries
-- the links from each pattern to what comes after it
pub mod PatLinks
-- the kept parts of a store without nodes
pub mod KeptParts
-- the store of an owner, and what is missing where there is none
pub mod Owners
-- what the files here import of std and of lower crates, from one place
pub mod Prelude
-- what only contracts within this crate cite
pub mod internal
-- proofs that `==` decides whether two values are the same
pub mod same
