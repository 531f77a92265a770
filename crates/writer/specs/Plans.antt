-- A rewritten plan, record by record: the head of a record's node, the records of its inputs, and when code can write the plan.
use Rattle.std.specs.Prelude.{true, false, Option, Some, None, List, ◌≡◌, ℕ, ◌<◌, ◌≤◌}
use Rattle.cpl.specs.Bytes.{binary_bytes, leaf_bytes, unary_bytes}
use Rattle.cpl.specs.Exprs.{binary_tags, leaf_tags, plan_nodes, unary_tags}
use Rattle.cpl.specs.Limits.{max_nodes}
use Rattle.cpl.specs.Limits as limits
use Rattle.cpl.specs.Plan.{Plan, binary, leaf, unary}
use Rattle.tree.specs.Node.{NodeFits, node_at}
use Rattle.tree.specs.Node as tree
use Rattle.tree.specs.Tree.{lent}
use Rattle.tree.specs.declared.Inputs.{Inputs}
use Rattle.tree.specs.declared.Inputs.TheVariants as inputs
use Rattle.tree.specs.declared.Node.{Node}
use Rattle.lookup.specs.Fields.{first_at, width_at}
use Rattle.lookup.specs.Standing.{Standing}
use Rattle.versions.specs.Versions.{version_of}
use Rattle.versions.specs.declared.Version.{Version}
use Rattle.result.specs.Result.{result_at}
use Rattle.result.specs.Records.{WfResults, record_at, results}
use Rattle.result.specs.declared.Record.{Record}
use Rattle.result.specs.declared.Record.TheVariants.{Kept, Columns, Items}
use Rattle.result.specs.declared.Record.TheVariants as records
use Rattle.writer_parts.specs.declared.Part.TheVariants.{Field, Item}
use Rattle.shapes.specs.declared.Segment.TheVariants.{Nothing}
use Rattle.shapes.specs.declared.Segment.TheVariants as segments
use Rattle.shapes.specs.declared.Shape.{Shape}
use Rattle.shapes.specs.Shapes.{Sums, empty_shape, head_shape, shape_of}

-- ── a plan's own node ───────────────────────────────────────────────────────────────────────

-- a plan's bytes and tags without those of its inputs
unfoldable pub plan_head : limits.Version → Plan → List ℕ
plan_head v (leaf h) = leaf_bytes v h
plan_head v (unary h p) = unary_bytes v h
plan_head v (binary h p q) = binary_bytes h

unfoldable pub head_tags : Plan → ℕ
head_tags (leaf h) = leaf_tags h
head_tags (unary h p) = unary_tags h
head_tags (binary h p q) = binary_tags h

-- ── a record's own node, in segments ────────────────────────────────────────────────────────

-- the node that a record keeps can be taken apart, and the rows that it starts at can be counted
abbrev pub Taken : (nodes : List ℕ) → Record → Type 0
Taken nodes (Kept old f g) = NodeFits nodes old × Sums (node_at nodes old)
Taken nodes (Columns old f) = Unit {0}
Taken nodes (Items row n f) = Unit {0}
Taken nodes records.Nothing = Unit {0}

-- where a count has `wide` bytes and that of a scan's filters `late`: a kept node; a projection of an old node's fields at the set; a projection of items; the one-row Empty with no fields
abbrev pub record_shape : (wide late : ℕ) (nodes widths : List ℕ) → Record → Shape
record_shape wide late nodes widths (Kept old f g) = shape_of wide late (node_at nodes old) (width_at widths old)
record_shape wide late nodes widths (Columns old f) = head_shape 1 1 (segments.List wide Field (first_at widths old) (width_at widths old) false) Nothing
record_shape wide late nodes widths (Items row n f) = head_shape 1 1 (segments.List wide Item row n true) Nothing
record_shape wide late nodes widths records.Nothing = empty_shape wide true 0 0

-- the arrays that its parts stand in
abbrev pub rows_of : (rows fields items : List ℕ) → Record → List ℕ
rows_of rows fields items (Kept old f g) = rows
rows_of rows fields items (Columns old f) = fields
rows_of rows fields items (Items row n f) = items
rows_of rows fields items records.Nothing = rows

abbrev pub cells_of : (cells icells : List ℕ) → Record → List ℕ
cells_of cells icells (Kept old f g) = cells
cells_of cells icells (Columns old f) = cells
cells_of cells icells (Items row n f) = icells
cells_of cells icells records.Nothing = cells

-- the records of its inputs, if it has any: the first, and the second if it has one
abbrev pub by_inputs : Inputs → (first second : ℕ) → Option (ℕ × Option ℕ)
by_inputs inputs.Nothing f g = None
by_inputs inputs.One f g = Some (f, None)
by_inputs (inputs.Two r) f g = Some (f, Some g)

abbrev pub node_inputs : Node → (first second : ℕ) → Option (ℕ × Option ℕ)
node_inputs n f g = by_inputs (tree.inputs_of n) f g

abbrev pub inputs_of : (nodes : List ℕ) → Record → Option (ℕ × Option ℕ)
inputs_of nodes (Kept old f g) = node_inputs (node_at nodes old) f g
inputs_of nodes (Columns old f) = Some (f, None)
inputs_of nodes (Items row n f) = Some (f, None)
inputs_of nodes records.Nothing = None

-- ── plans that code can write ───────────────────────────────────────────────────────────────

-- record i of a rewritten plan, of at most 256 nodes: the old plan's arrays, and the result's records, rows and cells; all in the file's version
pub record Writes (version : Version) (cells rows nodes fields widths records items icells : List ℕ) (i : ℕ) : Type 0 where
  pub standing : Standing cells rows nodes fields widths
  pub version_is : standing.C.version ≡ version_of version
  pub used : ℕ
  pub m : ℕ
  pub n : ℕ
  pub wf : WfResults standing.C (lent cells rows nodes) standing.count (results records items icells) used m n
  pub below : i < used
  pub small : plan_nodes (result_at standing.C (lent cells rows nodes) (results records items icells) i) ≤ max_nodes

-- the plan of that record
abbrev pub plan_of : {version : Version} {cells rows nodes fields widths records items icells : List ℕ} {i : ℕ} →
    Writes version cells rows nodes fields widths records items icells i → Plan
plan_of {version} {cells} {rows} {nodes} {fields} {widths} {records} {items} {icells} {i} w =
    result_at w.standing.C (lent cells rows nodes) (results records items icells) i

-- a shape that is the head of such a record, whatever version, nodes and widths it was made from
pub record Shaped (shape : Shape) (cells rows fields records items icells : List ℕ) (i : ℕ) : Type 0 where
  pub version : Version
  pub nodes : List ℕ
  pub widths : List ℕ
  pub writes : Writes version cells rows nodes fields widths records items icells i
  pub shape_is : shape ≡ record_shape version.wide version.late nodes widths (record_at records i)
