pub mod SameRoots
pub mod SameSideTables
pub mod SameStores
