-- What the readers of nodes answer and store.
pub mod Heads
