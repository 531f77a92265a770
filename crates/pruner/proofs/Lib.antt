-- Laws of the entries.
pub mod Plans
pub mod Files
pub mod Ends
pub mod Entries
