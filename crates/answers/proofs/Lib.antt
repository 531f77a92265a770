-- Laws of answers.
pub mod Ends
