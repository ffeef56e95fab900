pub mod Buffered
pub mod Sealed
