-- The texts of what rows hold.
pub mod Parts
