pub mod Scripts
pub mod Making
mod OfLinesLemmas
mod OutsideLemmas
mod PrintingLemmas
pub mod BuildingLemmas
pub mod TraceLemmas
pub mod QuestionLemmas
pub mod Refusals
pub mod SectionLemmas
pub mod AskedLemmas
pub mod EndingLemmas
pub mod ClosingLemmas
pub mod ScriptLemmas
pub mod MeaningLemmas
pub mod WritingLemmas
pub mod TakenLineLemmas
pub mod Texts
pub mod Children
pub mod BodyLemmas
