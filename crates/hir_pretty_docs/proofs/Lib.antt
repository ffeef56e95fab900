pub mod Common
pub mod AddLemmas
pub mod ArgsDocs
pub mod ListLemmas
pub mod OrderLemmas
pub mod SignatureLemmas
pub mod FieldLemmas
