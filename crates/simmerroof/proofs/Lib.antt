-- Laws of answers as three numbers.
pub mod Numbers
