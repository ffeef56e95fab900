-- the texts of ids
pub mod IdText
-- lemmas for equality that decides sameness, and for clones
pub mod Exact
-- lemmas for `==` of enums with many variants
pub mod Variants
-- when comparisons and hashes of a type agree
pub mod Laws
-- writes to the items of a sequence
pub mod Seq
-- `Seq` as a former of recursive types
pub mod formers
-- writes to a value on the heap
pub mod Boxed
-- writes to the items of an arena
pub mod Arena
-- numbered places as a finite map
pub mod Places
-- equality of finite maps
pub mod Maps
-- hash tables as finite maps
pub mod Table
-- writes to the values of a table
pub mod TableLends
-- lemmas for the codes of keys
pub mod Codes
-- the places of a short list's items
pub mod ShortList
-- writes to the items at a place
pub mod PlaceLends
-- writes to the items of a short list
pub mod ShortListLends
-- writes to a rare value
pub mod LazyBox
-- the model of a stack
pub mod Stacks
-- what only contracts within this crate cite
pub mod internal
