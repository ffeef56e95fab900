pub mod PathLemmas
pub mod ReadOptions
pub mod SegmentLemmas
