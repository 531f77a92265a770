-- What the entries promise of their answers.
pub mod Answers
