-- the ids of definitions that nodes hold
pub mod Ids
-- the texts of ids
pub mod IdTexts
-- the codes of keys of tables
pub mod Keys
-- the places of a name's text
pub mod Name
-- the words that each edition writes with `r#`
pub mod RawWords
-- paths without arguments
pub mod ModPath
-- the stored forms of such paths
pub mod Form
-- the contexts of hygiene
pub mod Hygiene
-- the stored forms of hygiene
pub mod HygieneForm
-- how tightly expressions bind, and where a child needs parentheses
pub mod Precedence
-- the texts of operators and of the suffixes of numbers
pub mod OpTexts
-- the texts of calling conventions
pub mod Abi
