pub mod ArgsCalls
pub mod ArgsSizes
pub mod ChildPatLemmas
pub mod RunLemmas
