-- the lines of a text, and which of them were read
pub mod Text
-- the model of a line reader
pub mod LineState
-- what asking for the next line does
pub mod NextLine
-- what the calls of a line reader do
pub mod Reading
-- the lines that were read from the bytes that a source shows
pub mod Reads
-- what calls do to the bytes that a source or a sink shows
pub mod Effects
-- what one call of a std reader or writer says
pub mod StdEnd
-- the texts of faults
pub mod FaultTexts
-- what only contracts within this crate cite
pub mod internal
