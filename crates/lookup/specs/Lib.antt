-- How lent arrays stand for field lists, and what is said of them, bottom up.
pub mod Fields
pub mod Answers
pub mod Standing
pub mod Marks
