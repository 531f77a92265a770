-- What a list can hold, how it is read and how it is stored; and the answers for parts of nodes.
-- Assumes nothing: these are definitions.
use Rattle.std.specs.Prelude.{ℕ, ◌+◌, List, [], ◌∷◌, ◌++◌, length, Result}
use Rattle.cpl.specs.Limits.{max_keys}
use Rattle.cpl.specs.Plan.{Pair, Expr, Item, Key, Call, Agg, agg, Win, win, On}
use Rattle.cpl.specs.Exprs.{expr_tags}
use Rattle.cpl.specs.Read.{Reader, ◌>>=◌, give, index, below, any, counted}
use Rattle.cpl.specs.ReadExpr.{read_pair, read_expr, read_item, read_key, read_call, read_agg, read_on}
use Rattle.tree.specs.Layout.{Store, expr_cells, root_of, all_cells, all_rows, all_nodes, item_store, expr_store, key_store, call_cells, call_nodes, call_root, agg_store, on_store, pair_store, column_store}
use Rattle.refusals.specs.declared.Refusal.{Refusal}
use Rattle.reader_fields.specs.declared.Spot.{Spot}
use Rattle.reader_fields.specs.Answers.{Right}
use Rattle.reader_parts.specs.declared.Kind.{Kind}
use Rattle.reader_parts.specs.declared.Kind.TheVariants as kind

-- the answer for what p reads at a spot, with so many tags before
abbrev pub RightAt : {A : Type 0} → Store A → Reader A → (file : List ℕ) → Spot → (tags : ℕ) → (cells cells' rows rows' : List ℕ) → Result Spot Refusal → Type 0
RightAt s p file from tags cells cells' rows rows' r = (n : ℕ) → Right s from cells cells' rows rows' n (p file from.at tags n) r

-- ── what a list holds ───────────────────────────────────────────────────────────────────────

abbrev pub Thing : Kind → Type 0
Thing kind.Item = Item
Thing kind.Key = Key
Thing kind.Expr = Expr
Thing kind.Agg = Agg
Thing kind.On = On
Thing kind.Pair = Pair
Thing (kind.Column k columns) = ℕ

-- the bytes of a column index, 0 for what has a width of its own
abbrev pub bytes_of : Kind → ℕ
bytes_of kind.Item = 0
bytes_of kind.Key = 0
bytes_of kind.Expr = 0
bytes_of kind.Agg = 0
bytes_of kind.On = 0
bytes_of kind.Pair = 0
bytes_of (kind.Column k columns) = k

abbrev pub store_of : (k : Kind) → Store (Thing k)
store_of kind.Item = item_store
store_of kind.Key = key_store
store_of kind.Expr = expr_store
store_of kind.Agg = agg_store
store_of kind.On = on_store
store_of kind.Pair = pair_store
store_of (kind.Column k columns) = column_store

abbrev pub reader_of : (k : Kind) → Reader (Thing k)
reader_of kind.Item = read_item
reader_of kind.Key = read_key
reader_of kind.Expr = read_expr
reader_of kind.Agg = read_agg
reader_of kind.On = read_on
reader_of kind.Pair = read_pair
reader_of (kind.Column k columns) = index k columns

-- ── parts of parts ──────────────────────────────────────────────────────────────────────────

-- an expression with a row that starts with x
abbrev pub member_store : ℕ → Store Expr
member_store x = record { cells_of = expr_cells; rows_of = λ made e. x ∷ 0 ∷ 0 ∷ root_of made e ∷ []; nodes_in = expr_tags; rows_held = λ e. 1 }

-- what a function has at the end, without a row
abbrev pub call_store : Store Call
call_store = record { cells_of = call_cells; rows_of = λ made g. []; nodes_in = call_nodes; rows_held = λ g. 0 }

-- what follows the pair of an aggregate, of a window
abbrev pub agg_rest : Pair → Reader Agg
agg_rest c = below 5 >>= λ f. read_call f >>= λ g. give (agg c g)

abbrev pub win_rest : Pair → Reader Win
win_rest c = below 5 >>= λ f. counted 1 any max_keys read_expr >>= λ ps. counted 1 any max_keys read_key >>= λ ks. read_call f >>= λ g. give (win c g ps ks)

-- a window's keys and what its function has at the end
pub data Rest : Type 0 where
  rest : List Key → Call → Rest

abbrev pub read_rest : (f : ℕ) → Reader Rest
read_rest f = counted 1 any max_keys read_key >>= λ ks. read_call f >>= λ g. give (rest ks g)

unfoldable pub rest_cells : (made : ℕ) → Rest → List ℕ
rest_cells made (rest ks g) = all_cells key_store made ks ++ call_cells (made + all_nodes key_store ks) g

unfoldable pub rest_rows : (made : ℕ) → Rest → List ℕ
rest_rows made (rest ks g) = (length ks ∷ 0 ∷ 0 ∷ call_root (made + all_nodes key_store ks) g ∷ []) ++ all_rows key_store made ks

unfoldable pub rest_nodes : Rest → ℕ
rest_nodes (rest ks g) = all_nodes key_store ks + call_nodes g

unfoldable pub rest_rows_in : Rest → ℕ
rest_rows_in (rest ks g) = 1 + length ks

abbrev pub rest_store : Store Rest
rest_store = record { cells_of = rest_cells; rows_of = rest_rows; nodes_in = rest_nodes; rows_held = rest_rows_in }
