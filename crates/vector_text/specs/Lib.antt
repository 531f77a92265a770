-- What a text says, and how it is stored.
pub mod Text
