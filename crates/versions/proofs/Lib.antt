-- What is known of every version's numbers.
pub mod Small
