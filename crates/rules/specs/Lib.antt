-- Requests, rules and answers, bottom up.
pub mod Mask
pub mod Keys
pub mod Request
pub mod Merge
pub mod Rules
pub mod Check
pub mod Rewrite
pub mod Items
pub mod FieldsKept
pub mod Answer
pub mod Success
pub mod Scans
pub mod OwnTables
pub mod Larger
pub mod Samples
pub mod Samples2
pub mod Computes
