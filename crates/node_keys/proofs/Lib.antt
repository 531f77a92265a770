pub mod Sets
pub mod Founds
pub mod Steps
pub mod Tables
pub mod Nodes
pub mod Scans
