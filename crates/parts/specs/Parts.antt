-- What the parts of a node ask of its rows.
use Rattle.std.specs.Prelude.{List, ℕ, ◌<◌}
use Rattle.tree.specs.Rows.{Inside, last_row, number_at}

-- a row with the index of one of `columns` columns
pub record ColumnOk (s : List ℕ) (columns i : ℕ) : Type 0 where
  pub inside : Inside s i
  pub column : number_at s i < columns

-- the rows of the window from row i on lie in the array
abbrev pub WinInside : List ℕ → ℕ → Type 0
WinInside s i = Inside s (last_row s i)
