-- Keys and a predicate that were read.
pub mod Given
