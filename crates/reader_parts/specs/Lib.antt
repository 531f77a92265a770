-- What the readers of parts answer and store.
pub mod Parts
