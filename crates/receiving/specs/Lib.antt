pub mod Receiving
pub mod Words
pub mod AnswerSets
