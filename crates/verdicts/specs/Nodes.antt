-- What is asked of a node that was taken apart, and of its sides, so that code can judge it.
use Rattle.std.specs.Prelude.{◌≡◌, Bool, true, false, List, [], ℕ, ◌+◌, ◌<◌, ◌≤◌, eqb, length}
use Rattle.cpl.specs.Accept.{clash}
use Rattle.cpl.specs.Plan.{Catalogue, Pair, names_of}
use Rattle.cpl.specs.ReadPlan.{Head}
use Rattle.tree.specs.Rows.{AllAt, EachOk, Inside, win_size}
use Rattle.tree.specs.Tree.{Arrays, lent}
use Rattle.tree.specs.declared.Node.{Node}
use Rattle.tree.specs.declared.Node.TheVariants.{Projection, Filter, Sort, Limit, Aggregate, Window, SubqueryAlias, Union, Distinct, Join, Scan, Empty}
use Rattle.tree.specs.declared.ScanNode.{ScanNode}
use Rattle.lookup.specs.Fields.{RowIn, SidesClear, field_at, left_row, right_row, row_at}
use Rattle.lookup.specs.declared.Sides.{Sides}
use Rattle.parts.specs.Catalogue.{TableIn, table_at}
use Rattle.parts.specs.Parts.{ColumnOk, WinInside}
use Rattle.verdicts.specs.Heads.{input_head, passes_head}
use Rattle.verdicts.specs.declared.Row.{Row}

-- a node's parts need no other nodes
abbrev pub parts : (cells rows : List ℕ) → Arrays
parts cells rows = lent cells rows []

-- ── a node ──────────────────────────────────────────────────────────────────────────────────

-- a scan's table and columns lie in the arrays; neither are more than `most`
pub record ScanInside (most : ℕ) (names rows : List ℕ) (s : ScanNode) : Type 0 where
  pub table : TableIn names s.table
  pub all_few : length (table_at names s.table) ≤ most
  pub few : s.given ≡ true → s.n ≤ most
  pub columns : s.given ≡ true → EachOk (ColumnOk rows (length (table_at names s.table))) rows s.first s.n

-- what gives a node's fields lies in the arrays
abbrev pub NodeInside : (most : ℕ) (names rows : List ℕ) → Node → Type 0
NodeInside most names rows (Projection f n) = EachOk (Inside rows) rows f n
NodeInside most names rows (Filter r) = Unit {0}
NodeInside most names rows (Sort f n) = Unit {0}
NodeInside most names rows (Limit s n) = Unit {0}
NodeInside most names rows (Aggregate f g v) = EachOk (Inside rows) rows f (g + v)
NodeInside most names rows (Window f n) = AllAt (WinInside rows) (win_size rows) f n
NodeInside most names rows (SubqueryAlias q) = Unit {0}
NodeInside most names rows (Union r) = Unit {0}
NodeInside most names rows Distinct = Unit {0}
NodeInside most names rows (Join j) = Unit {0}
NodeInside most names rows (Scan s) = ScanInside most names rows s
NodeInside most names rows (Empty b f n) = EachOk (Inside rows) rows f n

-- a scan's table is the one that the array has
abbrev pub Named : Catalogue → (names : List ℕ) → Node → Type 0
Named C names (Projection f n) = Unit {0}
Named C names (Filter r) = Unit {0}
Named C names (Sort f n) = Unit {0}
Named C names (Limit s n) = Unit {0}
Named C names (Aggregate f g v) = Unit {0}
Named C names (Window f n) = Unit {0}
Named C names (SubqueryAlias q) = Unit {0}
Named C names (Union r) = Unit {0}
Named C names Distinct = Unit {0}
Named C names (Join j) = Unit {0}
Named C names (Scan s) = names_of C s.table ≡ table_at names s.table
Named C names (Empty b f n) = Unit {0}

-- "Union inputs of unequal width"
abbrev pub even_of : Node → (left right : ℕ) → Bool
even_of (Projection f n) l m = true
even_of (Filter r) l m = true
even_of (Sort f n) l m = true
even_of (Limit s n) l m = true
even_of (Aggregate f g v) l m = true
even_of (Window f n) l m = true
even_of (SubqueryAlias q) l m = true
even_of (Union r) l m = eqb l m
even_of Distinct l m = true
even_of (Join j) l m = true
even_of (Scan s) l m = true
even_of (Empty b f n) l m = true

abbrev pub joins : Node → Bool
joins (Projection f n) = false
joins (Filter r) = false
joins (Sort f n) = false
joins (Limit s n) = false
joins (Aggregate f g v) = false
joins (Window f n) = false
joins (SubqueryAlias q) = false
joins (Union r) = false
joins Distinct = false
joins (Join j) = true
joins (Scan s) = false
joins (Empty b f n) = false

-- ── its sides and its row ───────────────────────────────────────────────────────────────────

-- an array of fields was written to: it is as long as before, and below field `free` reads the same
pub record KeptBelow (free : ℕ) (s s' : List ℕ) : Type 0 where
  pub long : length s' ≡ length s
  pub low : (x : ℕ) → x < free → field_at s' x ≡ field_at s x

-- the two sides of a node lie below field `free`, and have few fields that do not clash; from `free` on there is room for the node's own
pub record SidesReady (s : List ℕ) (free most : ℕ) (x : Sides) : Type 0 where
  pub before_left : x.left + x.lwidth ≤ free
  pub before_right : x.right + x.rwidth ≤ free
  pub few_left : x.lwidth ≤ most
  pub few_right : x.rwidth ≤ most
  pub clear_left : clash (left_row s x) ≡ false
  pub clear_right : clash (right_row s x) ≡ false
  pub room : RowIn s free most

-- what is asked so that the fields that a node's expressions are over can be had
pub record Looking (names s : List ℕ) (free : ℕ) (n : Node) (x : Sides) : Type 0 where
  pub most : ℕ
  pub rows : List ℕ
  pub inside : NodeInside most names rows n
  pub ready : SidesReady s free most x

-- they are the sides y, once the array is s': the expressions of the head h pass over them where they pass over what they are to be over
pub record Looked (C : Catalogue) (free : ℕ) (h : Head) (x y : Sides) (s s' : List ℕ) : Type 0 where
  pub clear : SidesClear s' y
  pub kept : KeptBelow free s s'
  pub passes : passes_head h (left_row s' y) (right_row s' y) ≡ passes_head h (input_head C h (left_row s x)) (right_row s x)

-- a row with the fields fs is stored. The first `clear` of them do not clash, and it ends below the next free field.
pub record RowStored (free most : ℕ) (row : Row) (fs : List Pair) (s' : List ℕ) : Type 0 where
  pub is : row_at s' row.first row.width ≡ fs
  pub part : row.clear ≤ row.width
  pub clear : clash (row_at s' row.first row.clear) ≡ false
  pub before : row.first + row.width ≤ row.next
  pub from : free ≤ row.next
  pub upto : row.next ≤ free + most

-- a node's fields are fs: as many as the row says, stored unless they are more than `most`
pub record Rowed (free most : ℕ) (row : Row) (fs : List Pair) (s s' : List ℕ) : Type 0 where
  pub long : row.width ≡ length fs
  pub kept : KeptBelow free s s'
  pub stored : row.width ≤ most → RowStored free most row fs s'
