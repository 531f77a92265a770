-- The laws of fields in lent arrays, bottom up. Other crates cite `Lists`, `Rows`, `Resolving`, `Clash` and `Standing`.
pub mod Lists
pub mod Rows
pub mod Fits
pub mod Resolving
pub mod Clash
pub mod Marks
pub mod Standing
