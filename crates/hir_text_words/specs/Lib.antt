pub mod AnswerLines
pub mod Line
pub mod TakesText
