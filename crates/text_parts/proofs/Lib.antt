-- The laws of the texts of what rows hold.
pub mod Parts
