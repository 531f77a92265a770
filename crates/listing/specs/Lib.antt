-- The text that the program prints, and what of it stands in the lent arrays.
pub mod Text
pub mod Lines
pub mod Computes
