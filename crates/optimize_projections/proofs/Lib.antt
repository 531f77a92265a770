-- The laws of the walk, bottom up.
pub mod Ends
pub mod Inputs
pub mod Puts
pub mod Nodes
pub mod Merges
pub mod Lists
