-- The laws of request sets, bottom up. Other crates cite `Methods`, `Building` and `Walk`.
pub mod Members
pub mod Masks
pub mod Lowest
pub mod Singles
pub mod Methods
pub mod Building
pub mod Walk
pub mod Words
pub mod Places
pub mod Search
pub mod Loops
pub mod Pads
pub mod Stored
pub mod Parts
pub mod Slides
pub mod Shifts
