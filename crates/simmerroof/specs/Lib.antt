-- An answer as three numbers.
pub mod Numbers
