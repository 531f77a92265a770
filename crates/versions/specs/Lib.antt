-- What a version's numbers stand for, and how long the lent arrays are that depend on it.
pub mod Versions
