-- How two lent arrays stand for the fields of nodes. Field j is the two numbers at 2 * j of `fields`, its qualifier and its name. A row of fields
-- is named by its first. Node k's row stands in `widths`: at k how many fields it has, at 256 + k the number of the first. Rows may be shared.
use Rattle.std.specs.Prelude.{◌≡◌, Bool, true, false, List, ℕ, ◌+◌, ◌*◌, ◌<◌, ◌≤◌, length, get_or}
use Rattle.cpl.specs.Accept.{clash}
use Rattle.cpl.specs.Limits.{max_nodes}
use Rattle.cpl.specs.Plan.{Pair, pair}
use Rattle.tree.specs.Rows.{list_at, one}
use Rattle.tree.specs.declared.Field.{Field}
use Rattle.lookup.specs.declared.Schema.{Schema}
use Rattle.lookup.specs.declared.Sides.{Sides}

abbrev pub field_at : List ℕ → ℕ → Pair
field_at s j = pair (get_or s (j * 2) 0) (get_or s (j * 2 + 1) 0)

-- `width` fields from field `first` on
abbrev pub row_at : List ℕ → (first width : ℕ) → List Pair
row_at s first width = list_at (field_at s) one first width

-- they lie in the array
abbrev pub RowIn : List ℕ → (first width : ℕ) → Type 0
RowIn s first width = (first + width) * 2 ≤ length s

-- and do not clash where that is said
pub record RowClear (s : List ℕ) (first width : ℕ) (said : Bool) : Type 0 where
  pub inside : RowIn s first width
  pub clear : said ≡ true → clash (row_at s first width) ≡ false

-- how many fields node k has, and the number of the first
abbrev pub width_at : List ℕ → ℕ → ℕ
width_at w k = get_or w k 0

abbrev pub first_at : List ℕ → ℕ → ℕ
first_at w k = get_or w (max_nodes + k) 0

-- the fields of node k
unfoldable pub fields_at : (fields widths : List ℕ) → ℕ → List Pair
fields_at s w k = row_at s (first_at w k) (width_at w k)

-- an array that was written to is as long as before, and below lo and from hi on reads the same
pub record Kept {A : Type 0} (read : List ℕ → ℕ → A) (lo hi : ℕ) (s s' : List ℕ) : Type 0 where
  pub long : length s' ≡ length s
  pub low : (x : ℕ) → x < lo → read s' x ≡ read s x
  pub high : (x : ℕ) → hi ≤ x → read s' x ≡ read s x

-- the fields other than lo .. hi - 1
abbrev pub RowsKept : (lo hi : ℕ) (s s' : List ℕ) → Type 0
RowsKept lo hi = Kept field_at lo hi

-- node x has its row where it had it
pub record RowStays (w w' : List ℕ) (x : ℕ) : Type 0 where
  pub width : width_at w' x ≡ width_at w x
  pub first : first_at w' x ≡ first_at w x

-- and so has each node other than lo .. hi - 1
pub record WidthsKept (lo hi : ℕ) (w w' : List ℕ) : Type 0 where
  pub long : length w' ≡ length w
  pub low : (x : ℕ) → x < lo → RowStays w w' x
  pub high : (x : ℕ) → hi ≤ x → x < max_nodes → RowStays w w' x

-- `width` fields from field `first` on are fs, and no other field was touched
pub record Filled (first width : ℕ) (fs : List Pair) (s s' : List ℕ) : Type 0 where
  pub row : row_at s' first width ≡ fs
  pub kept : RowsKept first (first + width) s s'

-- ── values ──────────────────────────────────────────────────────────────────────────────────

abbrev pub pair_of : Field → Pair
pair_of f = pair f.qualifier f.name

-- the fields of a row
abbrev pub fields_of : Schema → List Pair
fields_of s = row_at s.fields.now s.first s.width

-- they lie in the array
abbrev pub SchemaIn : Schema → Type 0
SchemaIn s = RowIn s.fields.now s.first s.width

-- and do not clash where that is said
abbrev pub SchemaClear : Schema → (said : Bool) → Type 0
SchemaClear s said = RowClear s.fields.now s.first s.width said

-- the fields of the two sides of a node
abbrev pub left_row : List ℕ → Sides → List Pair
left_row s x = row_at s x.left x.lwidth

abbrev pub right_row : List ℕ → Sides → List Pair
right_row s x = row_at s x.right x.rwidth

-- they lie in the array
pub record SidesIn (s : List ℕ) (x : Sides) : Type 0 where
  pub left_in : RowIn s x.left x.lwidth
  pub right_in : RowIn s x.right x.rwidth

-- and the fields of each by themselves do not clash where that is said
pub record SidesClear (s : List ℕ) (x : Sides) : Type 0 where
  pub left_clear : RowClear s x.left x.lwidth x.clear
  pub right_clear : RowClear s x.right x.rwidth x.clear
