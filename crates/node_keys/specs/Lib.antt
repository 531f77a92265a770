-- What is found of a key among items, then the keys of nodes.
pub mod Found
pub mod Keys
