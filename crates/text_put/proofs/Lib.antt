-- The laws of text that is put into a buffer.
pub mod Laws
