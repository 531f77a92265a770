-- What the steps of the walk say of the lent arrays, and of what they answer.
use Rattle.std.specs.Prelude.{◌≡◌, Bool, true, false, Result, Ok, Err, List, map, ℕ, ◌+◌, ◌*◌, ◌/◌, ◌<◌, ◌≤◌, length}
use Rattle.cpl.specs.Exprs.{item_tags}
use Rattle.cpl.specs.Limits.{max_nodes, max_tags, max_wide}
use Rattle.cpl.specs.Plan.{Item, Pair, item_expr}
use Rattle.cpl.specs.Tests.{all_b, sum_of}
use Rattle.rules.specs.Rules.{used}
use Rattle.required_indices.specs.Request.{Asks, flag_of, set_of}
use Rattle.required_indices.specs.declared.RequiredIndices.{RequiredIndices}
use Rattle.arena.specs.Rows.{RowsOk, items_at}
use Rattle.arena.specs.declared.Full.{Full}
use Rattle.arena_build.specs.Lists.{nodes_of}
use Rattle.result.specs.Records.{Appended}
use Rattle.result.specs.declared.Record.{Record}
use Rattle.result.specs.declared.Record.TheVariants as records
use Rattle.jobs.specs.Job.{KeptOf, Leftover}
use Rattle.jobs.specs.declared.Job.{Job}
use Rattle.jobs.specs.declared.Todo.{Todo}
use Rattle.jobs.specs.declared.Todo.TheVariants as todos
use Rattle.projections.specs.Lists.{Copies, FieldsIn, is_bare, kept_items}
use Rattle.projections.specs.Tops.{ProjectionPut, ToppedUp}
use Rattle.projections.specs.declared.Selection.{Selection}
use Rattle.projections.specs.declared.Selection.TheVariants as selection
use Rattle.projections.specs.declared.Topped.{Topped}
use Rattle.walk_steps.specs.declared.Chosen.{Chosen}
use Rattle.walk_steps.specs.declared.Inputs.{Inputs}
use Rattle.walk_steps.specs.declared.Pending.{Pending}
use Rattle.walk_steps.specs.declared.Used.{Used}
use Rattle.walk_steps.specs.declared.Walked.{Walked}

-- ── the pending list ────────────────────────────────────────────────────────────────────────

-- the array that it stands in
abbrev pub side : Bool → (scratch file : List ℕ) → List ℕ
side true s f = s
side false s f = f

abbrev pub pending_items : Pending → (rows cells arows acells : List ℕ) → List Item
pending_items l rows cells arows acells = items_at (side l.scratch arows rows) (side l.scratch acells cells) l.first l.n

abbrev pub kept_pending : Pending → RequiredIndices → (rows cells arows acells : List ℕ) → List Item
kept_pending l r rows cells arows acells = kept_items (side l.scratch arows rows) (side l.scratch acells cells) l.first l.n r

pub record ListOk (l : Pending) (rows cells arows acells : List ℕ) : Type 0 where
  pub rows_ok : RowsOk (side l.scratch arows rows) (side l.scratch acells cells) l.first l.n
  pub tags : sum_of item_tags (pending_items l rows cells arows acells) ≤ max_tags
  pub few : l.n ≤ max_wide

-- room for a list of 512 items, the most of every version, and for 4,096 nodes; a row names a node in 16 bits
pub record Scratch (rows cells : List ℕ) : Type 0 where
  pub rows_long : max_wide * 4 ≤ length rows
  pub cells_long : max_tags * 3 ≤ length cells
  pub cells_short : length cells ≤ 196608

-- ── kept items ──────────────────────────────────────────────────────────────────────────────

-- how the items js are to be put, and what is then in use
abbrev pub SelectionIs : (js : List Item) (u : Used) (items cells items' cells' : List ℕ) (more : Used) → Selection → Type 0
SelectionIs js u items cells items' cells' more selection.Columns = (all_b is_bare js ≡ true) × (more ≡ u) × (items' ≡ items) × (cells' ≡ cells)
SelectionIs js u items cells items' cells' more (selection.Items row n) =
    (all_b is_bare js ≡ false) × (row ≡ u.rows) × (more ≡ record { records = u.records; rows = row + n; cells = more.cells }) × Copies js row n items cells u.cells more.cells items' cells'

-- the items js of a projection over the fields fs: "ask the child for the columns they use"
pub record PickedIs (js : List Item) (fs : List Pair) (u : Used) (items cells items' cells' : List ℕ) (c : Chosen) : Type 0 where
  pub asks : Asks c.ask (used (map item_expr js) fs)
  pub flag : flag_of c.ask ≡ false
  pub taken : SelectionIs js u items cells items' cells' c.used c.list

-- they are picked, or there was no room for them
abbrev pub Picked : (js : List Item) (fs : List Pair) (u : Used) (items cells items' cells' : List ℕ) → Result Chosen Full → Type 0
Picked js fs u items cells items' cells' (Ok c) = PickedIs js fs u items cells items' cells' c
Picked js fs u items cells items' cells' (Err e) = (all_b is_bare js ≡ false) × (length cells / 3 < u.cells + nodes_of js)

-- ── records ─────────────────────────────────────────────────────────────────────────────────

-- a record was put behind those in use, and the fields `kept` are left; or all 256 are used
abbrev pub PutAs : (s s' : List ℕ) (u : Used) → Record → (set : ℕ) (kept : RequiredIndices) → Result Walked Full → Type 0
PutAs s s' u x set kept (Ok w) =
    (w.root ≡ u.records) × (w.used ≡ record { records = u.records + 1; rows = u.rows; cells = u.cells }) × (w.kept ≡ kept) × (u.records < max_nodes) × Appended s s' u.records x set
PutAs s s' u x set kept (Err e) = (max_nodes ≤ u.records) × (s' ≡ s)

-- a job whose fields that are left depend on the input
abbrev pub LeftFor : Job → Todo → Type 0
LeftFor j todos.Leaf = Unit {0}
LeftFor j todos.Nothing = Unit {0}
LeftFor j todos.Same = Leftover j
LeftFor j (todos.One topped) = Leftover j
LeftFor j (todos.Two right) = Unit {0}

-- the first input's record stands for node k, and these fields are left
abbrev pub SameAs : (j : Job) (i : Inputs) → Result Walked Full → Type 0
SameAs j i (Ok w) = (w.root ≡ i.first) × (w.used ≡ i.used) × KeptOf j i.kept w.kept
SameAs j i (Err e) = ⊥

-- a record was put, and of the input's fields those that the job leaves are left
pub record OnePut (s s' : List ℕ) (k : ℕ) (j : Job) (i : Inputs) (w : Result Walked Full) : Type 0 where
  pub kept : RequiredIndices
  pub left : KeptOf j i.kept kept
  pub put : PutAs s s' i.used (records.Kept k i.first i.second) (set_of j.set) kept w

-- node k over its inputs, by what its job says is to be done
abbrev pub DonePut : (s s' : List ℕ) (k : ℕ) (j : Job) (i : Inputs) (w : Result Walked Full) → Todo → Type 0
DonePut s s' k j i w todos.Leaf = PutAs s s' i.used (records.Kept k i.first i.second) (set_of j.set) j.kept w
DonePut s s' k j i w todos.Nothing = PutAs s s' i.used records.Nothing (set_of j.set) j.kept w
DonePut s s' k j i w todos.Same = (s' ≡ s) × SameAs j i w
DonePut s s' k j i w (todos.One topped) = OnePut s s' k j i w
DonePut s s' k j i w (todos.Two right) = PutAs s s' i.used (records.Kept k i.first i.second) (set_of j.set) j.kept w

-- the same where the inputs are there; else nothing is put
abbrev pub NodePut : (s s' : List ℕ) (k : ℕ) (j : Job) → Result Inputs Full → (w : Result Walked Full) → Todo → Type 0
NodePut s s' k j (Ok i) w t = DonePut s s' k j i w t
NodePut s s' k j (Err e) w t = (s' ≡ s) × (w ≡ Err e)

-- ── projections on top ──────────────────────────────────────────────────────────────────────

-- with a projection on top, the fields r are left
abbrev pub over : Topped → Used → RequiredIndices → Walked
over t u r = record { root = t.«record»; used = record { records = t.used; rows = u.rows; cells = u.cells }; kept = r }

-- with what a projection on top answered
abbrev pub Over : Result Topped Full → Used → RequiredIndices → Result Walked Full → Type 0
Over (Ok t) u r w = w ≡ Ok (over t u r)
Over (Err e) u r w = w ≡ Err e

-- node k was asked for `ask` and became w
pub record Topping (s s' : List ℕ) (k : ℕ) (ask : RequiredIndices) (w : Walked) (v : Result Walked Full) : Type 0 where
  pub t : Result Topped Full
  pub on_top : ToppedUp s s' w.used.records w.root k ask w.kept t
  pub over : Over t w.used ask v

abbrev pub ToppedIs : (s s' : List ℕ) (k : ℕ) (ask : RequiredIndices) (w v : Result Walked Full) (topped : Bool) → Type 0
ToppedIs s s' k ask w v false = (s' ≡ s) × (v ≡ w)
ToppedIs s s' k ask (Ok w) v true = Topping s s' k ask w v
ToppedIs s s' k ask (Err e) v true = (s' ≡ s) × (v ≡ Err e)

-- the fields of an input that are left lie in the array
abbrev pub FieldsFor : (fields : List ℕ) (start width : ℕ) → Result Walked Full → Type 0
FieldsFor fields start width (Ok w) = FieldsIn fields start width w.kept
FieldsFor fields start width (Err e) = Unit {0}

pub record Putting (s s' : List ℕ) (list : Selection) (fields : List ℕ) (top start width : ℕ) (r : RequiredIndices) (lower below : ℕ) (w : Walked) (v : Result Walked Full) : Type 0 where
  pub t : Result Topped Full
  pub on_top : ProjectionPut s s' w.used.records w.root list fields top start width r lower below w.kept t
  pub over : Over t w.used r v

abbrev pub ListPut : (s s' : List ℕ) (list : Selection) (fields : List ℕ) (top start width : ℕ) (r : RequiredIndices) (lower below : ℕ) (w v : Result Walked Full) → Type 0
ListPut s s' list fields top start width r lower below (Ok w) v = Putting s s' list fields top start width r lower below w v
ListPut s s' list fields top start width r lower below (Err e) v = (s' ≡ s) × (v ≡ Err e)
