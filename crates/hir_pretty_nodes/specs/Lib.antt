-- all that contracts of printing cite, from one place
pub mod Prelude
-- documents, of `hir_pretty_docs`: what printing looks up, what each node is printed as
pub use Rattle.hir_pretty_docs.specs.NameLookups
pub use Rattle.hir_pretty_docs.specs.Docs
pub use Rattle.hir_pretty_docs.specs.Names
pub use Rattle.hir_pretty_docs.specs.Paths
pub use Rattle.hir_pretty_docs.specs.Types
pub use Rattle.hir_pretty_docs.specs.Literals
pub use Rattle.hir_pretty_docs.specs.Pats
pub use Rattle.hir_pretty_docs.specs.Exprs
-- the pieces of a node's documents, where parentheses stand, and the first definition that is missing
pub mod DocPieces
-- what every printing returns
pub mod PrintResults
-- what a lookup in the tables gives to printing
pub mod TableLookups
-- what is printed from
pub mod PrintEnvs
-- the nodes among the documents of a node
pub mod DocNodes
-- the size of what is printed
pub mod Sizes
-- the model of a printer
pub mod Printing
-- what only contracts within this crate cite
pub mod internal
