-- A record taken apart, what it stands for over its inputs, and when code can go through the records.
use Rattle.std.specs.Prelude.{◌≡◌, List, Result, Ok, Err, ℕ, ◌+◌, ◌*◌, ◌^◌, ◌<◌, ◌≤◌, eqb, length}
use Rattle.cpl.specs.Exprs.{item_tags}
use Rattle.cpl.specs.Fields.{columns_of, fields_of}
use Rattle.cpl.specs.Limits.{max_nodes, max_tags}
use Rattle.cpl.specs.Plan.{Catalogue, names_of, Leaf, scan, empty, Unary, projection, filter, sort, limit, aggregate, window, subquery_alias, distinct, Plan, unary}
use Rattle.cpl.specs.Read.{pick}
use Rattle.cpl.specs.ReadPlan.{Head, h0, h1, h2}
use Rattle.cpl.specs.Tests.{sum_of}
use Rattle.arena.specs.declared.Full.{Full}
use Rattle.arena.specs.Kept.{Kept}
use Rattle.arena.specs.Rows.{RowsOk, items_at, root_at}
use Rattle.tree.specs.Node.{node_at}
use Rattle.tree.specs.Tree.{Arrays, head_of, plan_at}
use Rattle.result.specs.Result.{Results, columns_node, first_at, form_at, kept_node, nothing_left, old_at, record_n, second_at, set_at}
use Rattle.result.specs.declared.Record.{Record}
use Rattle.result.specs.declared.Record.TheVariants.{Columns, Items, Nothing}
use Rattle.result.specs.declared.Record.TheVariants

abbrev pub results : (records items cells : List ℕ) → Results
results records items cells = record { records = records; items = items; cells = cells }

-- ── a record taken apart ────────────────────────────────────────────────────────────────────

abbrev pub record_of : (form old first second : ℕ) → Record
record_of form old first second =
    pick (eqb form 0) (TheVariants.Kept old first second) (pick (eqb form 1) (Columns old first) (pick (eqb form 2) (Items old second first) Nothing))

unfoldable pub record_at : List ℕ → ℕ → Record
record_at s i = record_of (form_at s i) (old_at s i) (first_at s i) (second_at s i)

-- the numbers of its inputs' records, where it has them
abbrev pub first_of : Record → ℕ
first_of (TheVariants.Kept old f g) = f
first_of (Columns old f) = f
first_of (Items row n f) = f
first_of Nothing = 0

abbrev pub second_of : Record → ℕ
second_of (TheVariants.Kept old f g) = g
second_of (Columns old f) = 0
second_of (Items row n f) = 0
second_of Nothing = 0

-- what it stands for over the plans of its inputs
abbrev pub stands_for : Catalogue → Arrays → Results → (set : ℕ) → Record → (p q : Plan) → Plan
stands_for C a r s (TheVariants.Kept old f g) p q = kept_node C s (head_of a (node_at a.nodes old)) p q
stands_for C a r s (Columns old f) p q = columns_node (fields_of C (plan_at a old)) s p
stands_for C a r s (Items row n f) p q = unary (projection (items_at r.items r.cells row n)) p
stands_for C a r s Nothing p q = nothing_left

-- ── records that code can go through ────────────────────────────────────────────────────────

-- inputs stand before their node
abbrev pub InputsBelow : (i first second : ℕ) → Head → Type 0
InputsBelow i f g (h0 h) = Unit {0}
InputsBelow i f g (h1 h) = f < i
InputsBelow i f g (h2 h) = (f < i) × (g < i)

-- a set is within the list that it takes from
abbrev pub LeafSet : Catalogue → (set : ℕ) → Leaf → Type 0
LeafSet C s (scan t q is es) = s < 2 ^ length (columns_of (names_of C t) is)
LeafSet C s (empty b cs) = Unit {0}

abbrev pub UnarySet : (set : ℕ) → Unary → Type 0
UnarySet s (projection is) = Unit {0}
UnarySet s (filter e) = Unit {0}
UnarySet s (sort ks) = Unit {0}
UnarySet s (limit k n) = Unit {0}
UnarySet s (aggregate gs vs) = s < 2 ^ (length gs + length vs)
UnarySet s (window ws) = s < 2 ^ length ws
UnarySet s (subquery_alias q) = Unit {0}
UnarySet s distinct = Unit {0}

abbrev pub HeadSet : Catalogue → (set : ℕ) → Head → Type 0
HeadSet C s (h0 h) = LeafSet C s h
HeadSet C s (h1 h) = UnarySet s h
HeadSet C s (h2 h) = Unit {0}

-- of a tree of `count` nodes
pub record KeptOk (C : Catalogue) (a : Arrays) (count i set old first second : ℕ) : Type 0 where
  pub node : old < count
  pub inputs : InputsBelow i first second (head_of a (node_at a.nodes old))
  pub within : HeadSet C set (head_of a (node_at a.nodes old))

pub record ColumnsOk (C : Catalogue) (a : Arrays) (count i set old first : ℕ) : Type 0 where
  pub node : old < count
  pub input : first < i
  pub within : set < 2 ^ length (fields_of C (plan_at a old))

-- its rows are among the first m, its expressions' roots among the first k nodes
pub record ItemsOk (C : Catalogue) (r : Results) (m k i row n first : ℕ) : Type 0 where
  pub input : first < i
  pub rows : RowsOk r.items r.cells row n
  pub used : row + n ≤ m
  pub roots : (j : ℕ) → row ≤ j → j < row + n → root_at r.items j < k
  pub few : n ≤ C.version.max_items
  pub tags : sum_of item_tags (items_at r.items r.cells row n) ≤ max_tags

abbrev pub RecordOk : Catalogue → Arrays → (count : ℕ) → Results → (m k i set : ℕ) → Record → Type 0
RecordOk C a count r m k i s (TheVariants.Kept old f g) = KeptOk C a count i s old f g
RecordOk C a count r m k i s (Columns old f) = ColumnsOk C a count i s old f
RecordOk C a count r m k i s (Items row n f) = ItemsOk C r m k i row n f
RecordOk C a count r m k i s Nothing = Unit {0}

-- the first n records, over a tree of `count` nodes, with m rows and k nodes of their own
pub record WfResults (C : Catalogue) (a : Arrays) (count : ℕ) (r : Results) (n m k : ℕ) : Type 0 where
  pub inside : n * record_n ≤ length r.records
  pub each : (i : ℕ) → i < n → RecordOk C a count r m k i (set_at r.records i) (record_at r.records i)

-- ── what appending does ─────────────────────────────────────────────────────────────────────

pub record Stored (s s' : List ℕ) (i form old first second set : ℕ) : Type 0 where
  pub kept : Kept (i * record_n) s s'
  pub form_is : form_at s' i ≡ form
  pub old_is : old_at s' i ≡ old
  pub first_is : first_at s' i ≡ first
  pub second_is : second_at s' i ≡ second
  pub set_is : set_at s' i ≡ set

-- record i is now this one, and those before it are as they were
pub record Appended (s s' : List ℕ) (i : ℕ) (x : Record) (set : ℕ) : Type 0 where
  pub kept : Kept (i * record_n) s s'
  pub is : record_at s' i ≡ x
  pub set_is : set_at s' i ≡ set

abbrev pub PushedIs : (s s' : List ℕ) (used : ℕ) → Record → (set : ℕ) → Result ℕ Full → Type 0
PushedIs s s' used x set (Ok i) = (i ≡ used) × (used < max_nodes) × Appended s s' used x set
PushedIs s s' used x set (Err full) = (max_nodes ≤ used) × (s' ≡ s)

-- records, rows and nodes were appended after the first n, m and k
pub record Grown (n m k : ℕ) (r r' : Results) : Type 0 where
  pub records : Kept (n * record_n) r.records r'.records
  pub items : Kept (m * 4) r.items r'.items
  pub cells : Kept (k * 3) r.cells r'.cells
