-- What an entry answers.
pub mod Answers
