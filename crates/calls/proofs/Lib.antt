-- The laws of calls, bottom up.
pub mod Input
pub mod Requests
pub mod Numbers
pub mod Answers
pub mod Texts
pub mod Listings
pub mod Samples
