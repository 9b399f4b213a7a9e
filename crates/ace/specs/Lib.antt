pub mod AnswerLaws
pub mod Answers
pub mod Calls
