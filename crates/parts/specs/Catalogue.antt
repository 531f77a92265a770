-- How a lent array stands for the tables: table t has 513 numbers from 513 * t on, how many columns it has and then their names.
use Rattle.std.specs.Prelude.{List, ℕ, ◌+◌, ◌*◌, ◌<◌, ◌≤◌, length, get_or, take, drop}
use Rattle.tree.specs.Rows.{list_at, one}

abbrev pub column_count : List ℕ → ℕ → ℕ
column_count s t = get_or s (t * 513) 0

-- the names of table t
unfoldable pub table_at : List ℕ → ℕ → List ℕ
table_at s t = take (column_count s t) (drop (t * 513 + 1) s)

-- the tables of a catalogue
unfoldable pub catalogue_at : (names : List ℕ) (tables : ℕ) → List (List ℕ)
catalogue_at s tables = list_at (table_at s) one 0 tables

-- table t lies in the array, which has room for the columns that any version allows
pub record TableIn (s : List ℕ) (t : ℕ) : Type 0 where
  pub inside : t * 513 + 513 ≤ length s
  pub few : column_count s t ≤ 512

-- each table does
pub record NamesOk (s : List ℕ) (tables : ℕ) : Type 0 where
  pub each : (t : ℕ) → t < tables → TableIn s t
