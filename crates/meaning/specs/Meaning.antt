-- The rows of a plan over what the tables hold.
use Rattle.std.specs.Prelude.{List, [], ◌∷◌, map, Bool, true, false, ℕ, get_or}
use Rattle.cpl.specs.Tests.{all_b}
use Rattle.cpl.specs.Plan.{Pair, Expr, Leaf, scan, empty, Plan, leaf, unary, binary, Catalogue, names_of}
use Rattle.cpl.specs.Fields.{columns_of, table_fields, fields_of}
use Rattle.meaning.specs.Value.{missing, Row, Log, yes?}
use Rattle.meaning.specs.Eval.{eval}
use Rattle.meaning.specs.Lists.{filter_b}
use Rattle.meaning.specs.Operators.{unary_rows}
use Rattle.meaning.specs.Joins.{missings, binary_rows}

-- the rows of a table; a table that the log does not have is without rows
unfoldable pub table_rows : Log → (table : ℕ) → List Row
table_rows D t = get_or D t []

-- a row at some columns; a value that the row does not have is missing
unfoldable pub row_at : (columns : List ℕ) → Row → Row
row_at is r = map (λ i. get_or r i missing) is

-- "A one-row Empty gives one row of missings; otherwise none."
unfoldable pub empty_rows : (one-row : Bool) → List Pair → List Row
empty_rows true cs = missings cs ∷ []
empty_rows false cs = []

-- is the value of each filter yes?
unfoldable pub passes : List Pair → (filters : List Expr) → Row → Bool
passes fs es r = all_b (λ e. yes? (eval fs r e)) es

-- a scan's filters are over all of its table's columns, and "rows on which one is not yes are left out"
unfoldable pub scan_rows : Catalogue → Log → (table qualifier : ℕ) (filters : List Expr) → List Row
scan_rows C D t q es = filter_b (passes (table_fields C t q) es) (table_rows D t)

-- a scan gives those rows at its columns: "the names at its projection, or all"
unfoldable pub leaf_rows : Catalogue → Log → Leaf → List Row
leaf_rows C D (scan t q is es) = map (row_at (columns_of (names_of C t) is)) (scan_rows C D t q es)
leaf_rows C D (empty b cs) = empty_rows b cs

unfoldable pub meaning : Catalogue → Log → Plan → List Row
meaning C D (leaf h) = leaf_rows C D h
meaning C D (unary h p) = unary_rows h (fields_of C p) (meaning C D p)
meaning C D (binary h p₁ p₂) = binary_rows h (fields_of C p₁) (fields_of C p₂) (meaning C D p₁) (meaning C D p₂)
