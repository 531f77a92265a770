pub mod Cells
pub mod Kept
pub mod Lists
pub mod Rows
pub mod View
