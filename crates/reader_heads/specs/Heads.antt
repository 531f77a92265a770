-- The answers for nodes without their inputs. Assumes nothing: these are definitions.
use Rattle.std.specs.Prelude.{ℕ, ◌+◌, ◌*◌, ◌≤◌, ◌<◌, ◌≡◌, List, [], ◌∷◌, eqb, length, get_or, Result, Ok, Err}
use Rattle.std.proofs.Math.Option.{Option, none, some}
use Rattle.cpl.specs.Limits.{Version}
use Rattle.cpl.specs.Plan.{Expr, Leaf, scan, Unary, Binary, Catalogue, names_of}
use Rattle.cpl.specs.Read.{Res, bad, Reader, ◌>>=◌, give, pick, index, any, counted}
use Rattle.cpl.specs.ReadExpr.{read_expr}
use Rattle.cpl.specs.ReadPlan.{Head, h0, h1, h2, read_head, read_columns}
use Rattle.tree.specs.Layout.{Store, all_rows, column_store, columns_of, leaf_cells, leaf_rows, leaf_nodes, leaf_rows_in, leaf_node, unary_cells, unary_rows, unary_nodes, unary_rows_in, unary_node, cond_cells, cond_nodes, binary_cells, binary_rows, binary_nodes, binary_rows_in, binary_node}
use Rattle.refusals.specs.Codes.{code_of}
use Rattle.refusals.specs.declared.Refusal.{Refusal}
use Rattle.versions.specs.Versions.{node_rows}
use Rattle.reader_fields.specs.declared.Spot.{Spot}
use Rattle.reader_fields.specs.Answers.{Took}
use Rattle.reader_heads.specs.declared.Node.{Node}
use Rattle.reader_heads.specs.declared.Head.TheVariants as head
use Rattle.reader_heads.specs.declared.Head as answer

-- ── how a node is stored, without its seven numbers ─────────────────────────────────────────

abbrev pub head_cells : (made : ℕ) → Head → List ℕ
head_cells made (h0 l) = leaf_cells made l
head_cells made (h1 u) = unary_cells made u
head_cells made (h2 b) = binary_cells made b

abbrev pub head_rows : (made : ℕ) → Head → List ℕ
head_rows made (h0 l) = leaf_rows made l
head_rows made (h1 u) = unary_rows made u
head_rows made (h2 b) = binary_rows made b

abbrev pub head_nodes : Head → ℕ
head_nodes (h0 l) = leaf_nodes l
head_nodes (h1 u) = unary_nodes u
head_nodes (h2 b) = binary_nodes b

abbrev pub head_rows_in : Head → ℕ
head_rows_in (h0 l) = leaf_rows_in l
head_rows_in (h1 u) = unary_rows_in u
head_rows_in (h2 b) = binary_rows_in b

abbrev pub head_store : Store Head
head_store = record { cells_of = head_cells; rows_of = head_rows; nodes_in = head_nodes; rows_held = head_rows_in }

-- ── its seven numbers ───────────────────────────────────────────────────────────────────────

abbrev pub numbers : (kind second row : ℕ) → Node → List ℕ
numbers kind second row node = kind ∷ second ∷ row ∷ node.n ∷ node.x ∷ node.y ∷ node.z ∷ []

-- the answer's numbers are those of the node; a node with no input has its number of filters among them, a node with two inputs the second's number
abbrev pub NodeIs : (kind filters made row : ℕ) → Node → Head → Type 0
NodeIs kind filters made row node (h0 l) = numbers kind filters row node ≡ leaf_node row l
NodeIs kind filters made row node (h1 u) = numbers kind 0 row node ≡ unary_node made row u
NodeIs kind filters made row node (h2 b) = (second : ℕ) → numbers kind second row node ≡ binary_node made row second b

-- ── answers ─────────────────────────────────────────────────────────────────────────────────

pub record TookHead (v : Version) (kind filters : ℕ) (from : Spot) (cells cells' rows rows' : List ℕ) (n : ℕ) (x : Res Head) (t : Spot) (node : Node) (h : Head) : Type 0 where
  pub took : Took head_store from cells cells' rows rows' n x t
  pub value_is : took.value ≡ h
  pub numbers_are : NodeIs kind filters from.made from.row node h
  pub few_rows : head_rows_in h ≤ node_rows v + head_nodes h

abbrev pub RightHead : Version → (kind : ℕ) → Spot → (cells cells' rows rows' : List ℕ) → (n : ℕ) → Res Head → Result answer.Head Refusal → Type 0
RightHead v kind from cells cells' rows rows' n x (Ok (head.Leaf t node filters)) = (l : Leaf) × TookHead v kind filters from cells cells' rows rows' n x t node (h0 l)
RightHead v kind from cells cells' rows rows' n x (Ok (head.One t node)) = (u : Unary) × TookHead v kind 0 from cells cells' rows rows' n x t node (h1 u)
RightHead v kind from cells cells' rows rows' n x (Ok (head.Two t node)) = (b : Binary) × TookHead v kind 0 from cells cells' rows rows' n x t node (h2 b)
RightHead v kind from cells cells' rows rows' n x (Err e) = x ≡ bad (code_of e.reason) e.place

abbrev pub HeadAt : (kind : ℕ) → Catalogue → (file : List ℕ) → Spot → (cells cells' rows rows' : List ℕ) → Result answer.Head Refusal → Type 0
HeadAt kind C file from cells cells' rows rows' r =
    (place n : ℕ) → RightHead C.version kind from cells cells' rows rows' n (read_head C place kind file from.at from.tags n) r

-- the catalogue, in a version
abbrev pub in_version : Version → Catalogue → Catalogue
in_version v C = record { version = v; tables = C.tables; keys = C.keys }

-- ── parts ───────────────────────────────────────────────────────────────────────────────────

-- a join's condition
abbrev pub cond_store : Store (Option Expr)
cond_store = record { cells_of = cond_cells; rows_of = λ made c. []; nodes_in = cond_nodes; rows_held = λ c. 0 }

-- a scan's column indices, if it has any, and how they follow x, which says whether it has
abbrev pub columns_store : Store (Option (List ℕ))
columns_store = record { cells_of = λ made is. []; rows_of = λ made is. all_rows column_store made (columns_of is); nodes_in = λ is. 0; rows_held = λ is. length (columns_of is) }

abbrev pub columns_rest : Version → (columns x : ℕ) → Reader (Option (List ℕ))
columns_rest v columns x = pick (eqb x 0) (give none) (counted v.wide any v.max_columns (index v.wide columns) >>= λ is. give (some is))

-- what follows a scan's table and qualifier
abbrev pub scan_rest : Version → (t q columns : ℕ) → Reader Head
scan_rest v t q columns = read_columns v columns >>= λ is. counted v.late any v.max_filters read_expr >>= λ es. give (h0 (scan t q is es))

-- the catalogue has so many tables, and table t as many columns as the number at 513 * t says
pub record Widths (names : List ℕ) (tables : ℕ) (C : Catalogue) : Type 0 where
  pub count : length C.tables ≡ tables
  pub columns : (t : ℕ) → t < tables → length (names_of C t) ≡ get_or names (513 * t) 0
