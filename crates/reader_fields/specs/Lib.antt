-- What the readers answer and store.
pub mod Answers
