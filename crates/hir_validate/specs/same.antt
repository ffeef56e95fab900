pub mod SameNodes
