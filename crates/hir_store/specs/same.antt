pub mod SameBuilders
