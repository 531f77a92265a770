-- What the arguments are read as.
pub mod Arguments
