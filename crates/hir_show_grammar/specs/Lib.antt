-- the words of a line by what they say, and how each is written
pub mod Tokens
-- what a line may make
pub mod Makers
-- the lines as they are written
pub mod Grammar
-- the words after `type`
pub mod TypeGrammar
-- the words after `pat`
pub mod PatGrammar
-- the words after `expr`
pub mod ExprGrammar
-- reading words from the first on
pub mod Readings
-- names, read
pub mod Names
-- numbers, read
pub mod Numerals
-- single words, read
pub mod Words
-- operators between two expressions
pub mod Operators
-- arms and statements, read
pub mod ArmsAndStatements
-- the words after `type`, read
pub mod Types
-- the words after `pat`, read
pub mod Pats
-- the words after `expr`, read
pub mod Exprs
-- what a line says
pub mod Line
-- what a line does to what was made before it
pub mod LineEffects
-- what the files here import of std and of lower crates, from one place
pub mod Prelude
-- what only contracts within this crate cite
pub mod internal
-- proofs alone, of equality
pub mod same
