-- The plan language, bottom up.
pub mod Tests
pub mod Lists
pub mod Limits
pub mod Plan
pub mod Codes
pub mod Exprs
pub mod Read
pub mod ReadExpr
pub mod ReadPlan
pub mod Bytes
pub mod Writable
pub mod Fields
pub mod Accept
pub mod Accepted
pub mod AreBytes
pub mod Computes
