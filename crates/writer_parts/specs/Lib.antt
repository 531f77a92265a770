-- What a writer does to a buffer, the bytes and tags of a row by what it holds, and lists of rows of which some are taken.
pub mod Wrote
pub mod Parts
pub mod Lists
