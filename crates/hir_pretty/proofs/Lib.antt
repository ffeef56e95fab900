pub mod ListLemmas
pub mod OtherLemmas
mod WorkedRows
