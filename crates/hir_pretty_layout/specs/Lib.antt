-- text and layout, of which printed text is made
pub mod Layouts
-- a page of text, and what layouts make of it
pub mod Page
-- strings, characters and bytes as source text writes them
pub mod Literals
-- what steps over layouts make of a value
pub mod Steps
-- how the buffer holds a page
pub mod Buffer
-- what only contracts within this crate cite
pub mod internal
