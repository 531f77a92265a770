-- Laws of the walk from the root and of its ends.
pub mod Ends
pub mod Walks
