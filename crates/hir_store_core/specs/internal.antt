-- What only contracts within this crate cite: how its code goes on, step by step.
pub mod PatLinks
pub mod RootSearch
pub mod Tries
-- which child of a node is an anonymous constant of it
pub mod AnonConsts
-- the turns of a walk over the patterns of a pattern
pub mod PatTurns
-- what a search around an expression looks for, and where it ends
pub mod Sought
