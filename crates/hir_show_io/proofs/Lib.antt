pub mod StdEndLemmas
pub mod Ranges
pub mod HeldBytes
pub mod Asking
pub mod EndLemmas
pub mod Places
pub mod TextLemmas
pub mod ReadLemmas
