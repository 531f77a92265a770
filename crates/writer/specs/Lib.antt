-- The head of a record's node, and the records of a rewritten plan that are written.
pub mod Plans
