mod AskLemmas
pub mod CodeLemmas
pub mod ReadLemmas
mod DistinctLemmas
