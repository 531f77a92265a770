-- Laws of files that were read and checked.
pub mod Findings
pub mod Tables
pub mod Rooms
pub mod Ways
pub mod Marks
pub mod Plans
