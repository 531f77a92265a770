-- What an answer on a request stands for.
pub mod Requests
