-- Fields and meaning, second paragraph of document 01's section, bottom up; then what is promised of a narrowed plan.
pub mod Value
pub mod Eval
pub mod Lists
pub mod Order
pub mod Functions
pub mod Operators
pub mod Joins
pub mod Meaning
pub mod Reads
pub mod Keyed
pub mod Narrowing
pub mod Computes
pub mod Promise
