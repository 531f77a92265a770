-- What is asked of inputs.
pub mod Asked
