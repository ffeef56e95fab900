pub mod DefinitionLemmas
pub mod NoEntries
pub mod ComparedLemmas
pub mod NoSources
