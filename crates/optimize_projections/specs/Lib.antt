-- The walk.
pub mod Walk
-- The same, of lent arrays by their types.
pub mod Plans
