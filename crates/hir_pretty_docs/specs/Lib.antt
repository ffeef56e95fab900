-- all that contracts of this crate cite, from one place
pub mod Prelude
-- what printing looks up, and where
pub mod NameLookups
-- documents: what the text of a node is made of
pub mod Docs
-- names, lifetimes, bindings and labels
pub mod Names
-- paths, generic arguments and bounds
pub mod Paths
-- types
pub mod Types
-- literals
pub mod Literals
-- patterns
pub mod Pats
-- expressions
pub mod Exprs
-- what tokens stand for, and when documents were added to them
pub mod Tokens
