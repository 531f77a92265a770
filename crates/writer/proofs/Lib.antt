-- The laws of records and plans, bottom up.
pub mod Kept
pub mod Records
pub mod Plans
