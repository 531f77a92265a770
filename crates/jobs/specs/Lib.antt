-- Jobs.
pub mod Asked
pub mod Job
