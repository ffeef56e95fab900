-- what a helper leaves in a builder, and why it is refused
pub mod Adding
-- what the helpers make of their parts
pub mod Parts
-- what the files here import of std and of lower crates, from one place
pub mod Prelude
