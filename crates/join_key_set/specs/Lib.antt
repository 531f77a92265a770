-- Sets in a lent array, and what the functions answer.
pub mod Pairs
pub mod Answers
