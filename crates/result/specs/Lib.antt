-- The rewritten plan in lent arrays: what any numbers stand for, then a record taken apart and when code can go through the records.
pub mod Result
pub mod Records
