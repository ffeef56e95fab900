pub mod PageLemmas
pub mod EndLemmas
pub mod BufferLemmas
pub mod PieceLemmas
