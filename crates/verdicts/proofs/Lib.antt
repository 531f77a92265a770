-- The laws of one node's verdict, bottom up.
pub mod Rowed
pub mod References
pub mod Given
pub mod Faults
