-- The laws of requests.
pub mod Steps
