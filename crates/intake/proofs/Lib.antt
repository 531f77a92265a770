-- Laws of intakes.
pub mod Ways
pub mod All
