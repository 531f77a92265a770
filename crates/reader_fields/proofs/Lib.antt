-- What is proved of the readers of fields and expressions.
pub mod Laws
pub mod Sets
pub mod Exprs
