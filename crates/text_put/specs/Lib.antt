-- What is known of text that is put into a lent buffer.
pub mod Puts
