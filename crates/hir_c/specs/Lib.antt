-- what a call leaves in the caller's buffer, and what it reports of that
pub mod Report
-- what an ask keeps for a fetch
pub mod Kept
-- what open, ask, fetch and close do to a handle
pub mod Calls
