-- Files that were read and checked.
pub mod Readings
