-- What is left of a predicate.
pub mod Left
