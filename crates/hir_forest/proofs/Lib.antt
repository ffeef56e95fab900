pub mod RowsLemmas
pub mod MarkLemmas
pub mod ForestLemmas
pub mod VerdictLemmas
pub mod FaultLemmas
pub mod HeightLemmas
pub mod ParentLemmas
pub mod ChainLemmas
mod UnderLemmas
