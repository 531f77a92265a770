-- What the steps of the walk say.
pub mod Steps
