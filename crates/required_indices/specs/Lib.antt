-- What a request set means, bottom up.
pub mod Set
pub mod Words
pub mod Request
