-- What the programs that replay vectors ask of a line and of an answer.
pub mod Runs
