-- Plans in the lent arrays.
-- how a plan is laid out
pub mod Layout
-- what any numbers stand for
pub mod Rows
pub mod Node
pub mod Tree
-- what a part that was taken out says
pub mod Shows
