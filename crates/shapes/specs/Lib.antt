-- How a node's head stands in segments, and the bytes and tags of each.
pub mod Shapes
