-- Only proofs that `==` decides whether two values are the same: code cites them.
pub mod SameScopes
