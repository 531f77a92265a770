-- Which columns the scans of a plan name, and when two logs agree in them.
use Rattle.std.specs.Prelude.{◌≡◌, List, map, ◌++◌, Bool, false, ◌&&◌, ◌||◌, ℕ, ◌<◌, T, eqb, length, get_or}
use Rattle.cpl.specs.Tests.{any_b, concat_map}
use Rattle.cpl.specs.Plan.{Expr, Leaf, scan, empty, Plan, leaf, unary, binary, Catalogue, names_of}
use Rattle.cpl.specs.Exprs.{places}
use Rattle.cpl.specs.Fields.{columns_of, table_fields}
use Rattle.meaning.specs.Value.{Val, missing, Log}
use Rattle.meaning.specs.Meaning.{table_rows}

-- the columns of its table that the references of a scan's filters find
unfoldable pub filter_columns : Catalogue → (table qualifier : ℕ) (filters : List Expr) → List ℕ
filter_columns C t q es = concat_map (places (table_fields C t q)) es

-- those of its list and those of its filters: "demand 3 counts their columns as named by the scan"
unfoldable pub leaf_reads : Catalogue → Leaf → (table column : ℕ) → Bool
leaf_reads C (scan u q is es) t i = eqb t u && any_b (eqb i) (columns_of (names_of C u) is ++ filter_columns C u q es)
leaf_reads C (empty b cs) t i = false

-- does some scan of the plan name this column of this table?
unfoldable pub reads : Catalogue → Plan → (table column : ℕ) → Bool
reads C (leaf h) t i = leaf_reads C h t i
reads C (unary h p) t i = reads C p t i
reads C (binary h p₁ p₂) t i = reads C p₁ t i || reads C p₂ t i

unfoldable pub row_count : Log → (table : ℕ) → ℕ
row_count D t = length (table_rows D t)

-- the values of a column, row by row
unfoldable pub column : Log → (table column : ℕ) → List Val
column D t i = map (λ r. get_or r i missing) (table_rows D t)

-- as many rows in each of the catalogue's tables, and the same values in each column that the plan's scans name
pub record Agree (C : Catalogue) (p : Plan) (D E : Log) : Type 0 where
  pub counts : (t : ℕ) → t < length C.tables → row_count D t ≡ row_count E t
  pub columns : (t i : ℕ) → T (reads C p t i) → column D t i ≡ column E t i
