-- The two layouts of a list of pairs.
pub mod Rows
