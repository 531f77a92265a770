-- The laws of the parts of nodes, bottom up. Other crates cite `Tables` and `Exprs`.
pub mod Exprs
pub mod Strides
pub mod Tables
