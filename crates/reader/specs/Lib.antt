-- What the reader of a plan file answers and stores.
pub mod Marks
pub mod Plans
