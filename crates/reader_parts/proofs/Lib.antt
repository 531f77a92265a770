-- What is proved of the readers of parts.
pub mod Compose
pub mod Parts
pub mod Counts
pub mod Wins
