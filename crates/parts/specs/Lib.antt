-- What the parts of nodes are judged by.
pub mod Catalogue
pub mod Parts
