-- Only proofs: what the impls of `ExactEq` cite, that `==` of a type decides whether two values are the same.
pub mod SameQuestions
