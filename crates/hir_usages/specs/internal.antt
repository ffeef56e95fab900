-- What only contracts within this crate cite: how its code goes on, step by step.
pub mod Pending
pub mod Reading
pub mod RenamedUses
pub mod Seen
pub mod Wanted
