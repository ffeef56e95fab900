pub mod ArrayMemory
pub mod DeferredLemmas
pub mod NumberedItems
pub mod PlacesLemmas
pub mod ShortListLemmas
pub mod TableLemmas
