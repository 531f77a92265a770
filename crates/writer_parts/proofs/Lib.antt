-- The laws of writing and counting, bottom up.
pub mod Over
pub mod Exprs
pub mod Rows
pub mod Lists
pub mod Wins
