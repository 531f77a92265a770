-- The plan of one node that is judged.
pub mod Node
