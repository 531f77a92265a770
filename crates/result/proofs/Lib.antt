-- The laws of records, bottom up.
pub mod Forms
pub mod Steps
pub mod Grow
