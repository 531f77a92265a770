-- What is proved of the reader of plan files.
pub mod Rooms
pub mod Sizes
pub mod Plans
pub mod Files
pub mod Exact
