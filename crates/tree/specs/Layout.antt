-- How a plan is laid out in three arrays of numbers, written front to back as the file is read.
--   cells: expressions, three numbers a node (tag, x, y), operands before their parents. A column has its pair in x and y, a literal its 64 bits in x,
--          an operator the numbers of its operands' nodes.
--   rows:  the parts of a node, four numbers a row. An expression stands there by the number of its root in the cells.
--   nodes: the plan's nodes in prefix order, seven numbers a node: kind (the file's tag), number of the second input (of a scan: how many filters
--          it has), first row, number of rows, and three more that depend on the kind.
use Rattle.std.specs.Prelude.{List, [], ◌∷◌, ◌++◌, Bool, true, false, ℕ, ◌+◌, ◌*◌, ◌-◌, length}
use Rattle.std.proofs.Math.Option.{Option, none, some}
use Rattle.cpl.specs.Plan.{Pair, pair, Expr, col, lit, miss, un, bin, Item, bare, named, Key, key, Call, rows, over, Agg, agg, Win, win, On, on, Leaf, scan, empty, Unary, projection, filter, sort, limit, aggregate, window, subquery_alias, distinct, Binary, union, join, Plan, leaf, unary, binary, item_expr}
use Rattle.cpl.specs.Codes.{op1_tag, op2_tag, unsigned, join_number, bit}
use Rattle.cpl.specs.Exprs.{expr_tags, plan_nodes}
use Rattle.cpl.specs.Bytes.{call_number, fetch_number}

-- ── how a thing is stored ───────────────────────────────────────────────────────────────────

-- a thing's cells and rows where the cells' first free node is `made`; how many nodes and how many rows it takes
pub record Store (A : Type 0) : Type 0 where
  pub cells_of : (made : ℕ) → A → List ℕ
  pub rows_of : (made : ℕ) → A → List ℕ
  pub nodes_in : A → ℕ
  pub rows_held : A → ℕ

-- things one after the other
unfoldable pub all_cells : {A : Type 0} → Store A → (made : ℕ) → List A → List ℕ
all_cells s made [] = []
all_cells s made (x ∷ xs) = s.cells_of made x ++ all_cells s (made + s.nodes_in x) xs

unfoldable pub all_rows : {A : Type 0} → Store A → (made : ℕ) → List A → List ℕ
all_rows s made [] = []
all_rows s made (x ∷ xs) = s.rows_of made x ++ all_rows s (made + s.nodes_in x) xs

unfoldable pub all_nodes : {A : Type 0} → Store A → List A → ℕ
all_nodes s [] = 0
all_nodes s (x ∷ xs) = s.nodes_in x + all_nodes s xs

unfoldable pub all_rows_in : {A : Type 0} → Store A → List A → ℕ
all_rows_in s [] = 0
all_rows_in s (x ∷ xs) = s.rows_held x + all_rows_in s xs

abbrev pub list_store : {A : Type 0} → Store A → Store (List A)
list_store s = record { cells_of = all_cells s; rows_of = all_rows s; nodes_in = all_nodes s; rows_held = all_rows_in s }

-- ── expressions ─────────────────────────────────────────────────────────────────────────────

-- one node for each tag, the root last
unfoldable pub expr_cells : (made : ℕ) → Expr → List ℕ
expr_cells made (col (pair q n)) = 0 ∷ q ∷ n ∷ []
expr_cells made (lit z) = 1 ∷ unsigned z ∷ 0 ∷ []
expr_cells made miss = 2 ∷ 0 ∷ 0 ∷ []
expr_cells made (un o a) = expr_cells made a ++ (op1_tag o ∷ (made + expr_tags a - 1) ∷ 0 ∷ [])
expr_cells made (bin o a b) =
    expr_cells made a ++ (expr_cells (made + expr_tags a) b ++ (op2_tag o ∷ (made + expr_tags a - 1) ∷ (made + expr_tags a + expr_tags b - 1) ∷ []))

-- the number of the root
unfoldable pub root_of : (made : ℕ) → Expr → ℕ
root_of made e = made + expr_tags e - 1

-- ── parts of nodes ──────────────────────────────────────────────────────────────────────────

-- a row of an item: its pair, 0 bare or 1 aliased, its root. A bare item's column is a node too.
unfoldable pub item_mark : Item → ℕ
item_mark (bare c) = 0
item_mark (named c e) = 1

unfoldable pub pair_row : Pair → ℕ → ℕ → List ℕ
pair_row (pair q n) x y = q ∷ n ∷ x ∷ y ∷ []

unfoldable pub item_row : (made : ℕ) → Item → List ℕ
item_row made (bare c) = pair_row c 0 (root_of made (col c))
item_row made (named c e) = pair_row c 1 (root_of made e)

abbrev pub item_store : Store Item
item_store = record { cells_of = λ made i. expr_cells made (item_expr i); rows_of = item_row; nodes_in = λ i. expr_tags (item_expr i); rows_held = λ i. 1 }

-- an expression alone, a key (its flags first)
abbrev pub expr_store : Store Expr
expr_store = record { cells_of = expr_cells; rows_of = λ made e. 0 ∷ 0 ∷ 0 ∷ root_of made e ∷ []; nodes_in = expr_tags; rows_held = λ e. 1 }

unfoldable pub key_cells : (made : ℕ) → Key → List ℕ
key_cells made (key d m e) = expr_cells made e

unfoldable pub key_row : (made : ℕ) → Key → List ℕ
key_row made (key d m e) = (bit d + 2 * bit m) ∷ 0 ∷ 0 ∷ root_of made e ∷ []

unfoldable pub key_nodes : Key → ℕ
key_nodes (key d m e) = expr_tags e

abbrev pub key_store : Store Key
key_store = record { cells_of = key_cells; rows_of = key_row; nodes_in = key_nodes; rows_held = λ k. 1 }

-- a function's expression, if it has one: its cells, its nodes, its root (0 where there is none)
unfoldable pub call_cells : (made : ℕ) → Call → List ℕ
call_cells made rows = []
call_cells made (over f e) = expr_cells made e

unfoldable pub call_nodes : Call → ℕ
call_nodes rows = 0
call_nodes (over f e) = expr_tags e

unfoldable pub call_root : (made : ℕ) → Call → ℕ
call_root made rows = 0
call_root made (over f e) = root_of made e

-- an aggregate: its pair, its function, its root
unfoldable pub agg_cells : (made : ℕ) → Agg → List ℕ
agg_cells made (agg c g) = call_cells made g

unfoldable pub agg_row : (made : ℕ) → Agg → List ℕ
agg_row made (agg c g) = pair_row c (call_number g) (call_root made g)

unfoldable pub agg_nodes : Agg → ℕ
agg_nodes (agg c g) = call_nodes g

abbrev pub agg_store : Store Agg
agg_store = record { cells_of = agg_cells; rows_of = agg_row; nodes_in = agg_nodes; rows_held = λ a. 1 }

-- a window: a row (pair, function, p), p rows of parts, a row (k, 0, 0, the function's root), k rows of keys
unfoldable pub win_cells : (made : ℕ) → Win → List ℕ
win_cells made (win c g ps ks) =
    let made₁ = made + all_nodes expr_store ps in
    all_cells expr_store made ps ++ (all_cells key_store made₁ ks ++ call_cells (made₁ + all_nodes key_store ks) g)

unfoldable pub win_rows : (made : ℕ) → Win → List ℕ
win_rows made (win c g ps ks) =
    let made₁ = made + all_nodes expr_store ps in
    pair_row c (call_number g) (length ps)
    ++ (all_rows expr_store made ps ++ ((length ks ∷ 0 ∷ 0 ∷ call_root (made₁ + all_nodes key_store ks) g ∷ []) ++ all_rows key_store made₁ ks))

unfoldable pub win_nodes : Win → ℕ
win_nodes (win c g ps ks) = all_nodes expr_store ps + (all_nodes key_store ks + call_nodes g)

unfoldable pub win_rows_in : Win → ℕ
win_rows_in (win c g ps ks) = 2 + (length ps + length ks)

abbrev pub win_store : Store Win
win_store = record { cells_of = win_cells; rows_of = win_rows; nodes_in = win_nodes; rows_held = win_rows_in }

-- a pair of a join: the two roots
unfoldable pub on_cells : (made : ℕ) → On → List ℕ
on_cells made (on a b) = expr_cells made a ++ expr_cells (made + expr_tags a) b

unfoldable pub on_row : (made : ℕ) → On → List ℕ
on_row made (on a b) = 0 ∷ 0 ∷ root_of made a ∷ root_of (made + expr_tags a) b ∷ []

unfoldable pub on_nodes : On → ℕ
on_nodes (on a b) = expr_tags a + expr_tags b

abbrev pub on_store : Store On
on_store = record { cells_of = on_cells; rows_of = on_row; nodes_in = on_nodes; rows_held = λ o. 1 }

-- a field of an Empty, a column index of a scan
abbrev pub pair_store : Store Pair
pair_store = record { cells_of = λ made c. []; rows_of = λ made c. pair_row c 0 0; nodes_in = λ c. 0; rows_held = λ c. 1 }

abbrev pub column_store : Store ℕ
column_store = record { cells_of = λ made i. []; rows_of = λ made i. i ∷ 0 ∷ 0 ∷ 0 ∷ []; nodes_in = λ i. 0; rows_held = λ i. 1 }

-- ── nodes ───────────────────────────────────────────────────────────────────────────────────

unfoldable pub columns_of : Option (List ℕ) → List ℕ
columns_of none = []
columns_of (some is) = is

unfoldable pub given : {A : Type 0} → Option A → Bool
given none = false
given (some x) = true

-- a scan's filters
unfoldable pub leaf_cells : (made : ℕ) → Leaf → List ℕ
leaf_cells made (scan t q is es) = all_cells expr_store made es
leaf_cells made (empty b cs) = []

-- a scan: the rows of its columns, then those of its filters
unfoldable pub leaf_rows : (made : ℕ) → Leaf → List ℕ
leaf_rows made (scan t q is es) = all_rows column_store made (columns_of is) ++ all_rows expr_store made es
leaf_rows made (empty b cs) = all_rows pair_store made cs

unfoldable pub leaf_nodes : Leaf → ℕ
leaf_nodes (scan t q is es) = all_nodes expr_store es
leaf_nodes (empty b cs) = 0

unfoldable pub leaf_rows_in : Leaf → ℕ
leaf_rows_in (scan t q is es) = length (columns_of is) + length es
leaf_rows_in (empty b cs) = length cs

-- kind, the number of a scan's filters, first row, number of columns or of fields, and three more
unfoldable pub leaf_node : (row : ℕ) → Leaf → List ℕ
leaf_node row (scan t q is es) = 11 ∷ length es ∷ row ∷ length (columns_of is) ∷ t ∷ q ∷ bit (given is) ∷ []
leaf_node row (empty b cs) = 12 ∷ 0 ∷ row ∷ length cs ∷ bit b ∷ 0 ∷ 0 ∷ []

unfoldable pub unary_cells : (made : ℕ) → Unary → List ℕ
unary_cells made (projection is) = all_cells item_store made is
unary_cells made (filter e) = expr_cells made e
unary_cells made (sort ks) = all_cells key_store made ks
unary_cells made (limit s n) = []
unary_cells made (aggregate gs vs) = all_cells item_store made gs ++ all_cells agg_store (made + all_nodes item_store gs) vs
unary_cells made (window ws) = all_cells win_store made ws
unary_cells made (subquery_alias q) = []
unary_cells made distinct = []

unfoldable pub unary_rows : (made : ℕ) → Unary → List ℕ
unary_rows made (projection is) = all_rows item_store made is
unary_rows made (filter e) = []
unary_rows made (sort ks) = all_rows key_store made ks
unary_rows made (limit s n) = []
unary_rows made (aggregate gs vs) = all_rows item_store made gs ++ all_rows agg_store (made + all_nodes item_store gs) vs
unary_rows made (window ws) = all_rows win_store made ws
unary_rows made (subquery_alias q) = []
unary_rows made distinct = []

unfoldable pub unary_nodes : Unary → ℕ
unary_nodes (projection is) = all_nodes item_store is
unary_nodes (filter e) = expr_tags e
unary_nodes (sort ks) = all_nodes key_store ks
unary_nodes (limit s n) = 0
unary_nodes (aggregate gs vs) = all_nodes item_store gs + all_nodes agg_store vs
unary_nodes (window ws) = all_nodes win_store ws
unary_nodes (subquery_alias q) = 0
unary_nodes distinct = 0

unfoldable pub unary_rows_in : Unary → ℕ
unary_rows_in (projection is) = length is
unary_rows_in (filter e) = 0
unary_rows_in (sort ks) = length ks
unary_rows_in (limit s n) = 0
unary_rows_in (aggregate gs vs) = length gs + length vs
unary_rows_in (window ws) = all_rows_in win_store ws
unary_rows_in (subquery_alias q) = 0
unary_rows_in distinct = 0

-- Filter has its root, Limit its two numbers, Aggregate the number of aggregates beside that of groups, SubqueryAlias its qualifier
unfoldable pub unary_node : (made row : ℕ) → Unary → List ℕ
unary_node made row (projection is) = 1 ∷ 0 ∷ row ∷ length is ∷ 0 ∷ 0 ∷ 0 ∷ []
unary_node made row (filter e) = 2 ∷ 0 ∷ row ∷ 0 ∷ root_of made e ∷ 0 ∷ 0 ∷ []
unary_node made row (sort ks) = 3 ∷ 0 ∷ row ∷ length ks ∷ 0 ∷ 0 ∷ 0 ∷ []
unary_node made row (limit s n) = 4 ∷ 0 ∷ row ∷ 0 ∷ s ∷ fetch_number n ∷ 0 ∷ []
unary_node made row (aggregate gs vs) = 5 ∷ 0 ∷ row ∷ length gs ∷ length vs ∷ 0 ∷ 0 ∷ []
unary_node made row (window ws) = 6 ∷ 0 ∷ row ∷ length ws ∷ 0 ∷ 0 ∷ 0 ∷ []
unary_node made row (subquery_alias q) = 7 ∷ 0 ∷ row ∷ 0 ∷ q ∷ 0 ∷ 0 ∷ []
unary_node made row distinct = 9 ∷ 0 ∷ row ∷ 0 ∷ 0 ∷ 0 ∷ 0 ∷ []

unfoldable pub cond_cells : (made : ℕ) → Option Expr → List ℕ
cond_cells made none = []
cond_cells made (some e) = expr_cells made e

unfoldable pub cond_nodes : Option Expr → ℕ
cond_nodes none = 0
cond_nodes (some e) = expr_tags e

unfoldable pub cond_root : (made : ℕ) → Option Expr → ℕ
cond_root made none = 0
cond_root made (some e) = root_of made e

unfoldable pub binary_cells : (made : ℕ) → Binary → List ℕ
binary_cells made union = []
binary_cells made (join t os c) = all_cells on_store made os ++ cond_cells (made + all_nodes on_store os) c

unfoldable pub binary_rows : (made : ℕ) → Binary → List ℕ
binary_rows made union = []
binary_rows made (join t os c) = all_rows on_store made os

unfoldable pub binary_nodes : Binary → ℕ
binary_nodes union = 0
binary_nodes (join t os c) = all_nodes on_store os + cond_nodes c

unfoldable pub binary_rows_in : Binary → ℕ
binary_rows_in union = 0
binary_rows_in (join t os c) = length os

-- Join has its type, whether it has a condition, and the condition's root. `right` is the number of the second input.
unfoldable pub binary_node : (made row right : ℕ) → Binary → List ℕ
binary_node made row right union = 8 ∷ right ∷ row ∷ 0 ∷ 0 ∷ 0 ∷ 0 ∷ []
binary_node made row right (join t os c) = 10 ∷ right ∷ row ∷ length os ∷ join_number t ∷ bit (given c) ∷ cond_root (made + all_nodes on_store os) c ∷ []

-- ── plans ───────────────────────────────────────────────────────────────────────────────────

unfoldable pub expr_nodes : Plan → ℕ
expr_nodes (leaf h) = leaf_nodes h
expr_nodes (unary h p) = unary_nodes h + expr_nodes p
expr_nodes (binary h p₁ p₂) = binary_nodes h + (expr_nodes p₁ + expr_nodes p₂)

unfoldable pub plan_rows_in : Plan → ℕ
plan_rows_in (leaf h) = leaf_rows_in h
plan_rows_in (unary h p) = unary_rows_in h + plan_rows_in p
plan_rows_in (binary h p₁ p₂) = binary_rows_in h + (plan_rows_in p₁ + plan_rows_in p₂)

unfoldable pub plan_cells : (made : ℕ) → Plan → List ℕ
plan_cells made (leaf h) = leaf_cells made h
plan_cells made (unary h p) = unary_cells made h ++ plan_cells (made + unary_nodes h) p
plan_cells made (binary h p₁ p₂) = binary_cells made h ++ (plan_cells (made + binary_nodes h) p₁ ++ plan_cells (made + binary_nodes h + expr_nodes p₁) p₂)

unfoldable pub plan_rows : (made : ℕ) → Plan → List ℕ
plan_rows made (leaf h) = leaf_rows made h
plan_rows made (unary h p) = unary_rows made h ++ plan_rows (made + unary_nodes h) p
plan_rows made (binary h p₁ p₂) = binary_rows made h ++ (plan_rows (made + binary_nodes h) p₁ ++ plan_rows (made + binary_nodes h + expr_nodes p₁) p₂)

-- the nodes of a plan whose root is node `at`, its first expression node `made`, its first row `row`
unfoldable pub plan_table : (at made row : ℕ) → Plan → List ℕ
plan_table at made row (leaf h) = leaf_node row h
plan_table at made row (unary h p) = unary_node made row h ++ plan_table (at + 1) (made + unary_nodes h) (row + unary_rows_in h) p
plan_table at made row (binary h p₁ p₂) =
    let made₁ = made + binary_nodes h in
    let row₁ = row + binary_rows_in h in
    binary_node made row (at + 1 + plan_nodes p₁) h
    ++ (plan_table (at + 1) made₁ row₁ p₁ ++ plan_table (at + 1 + plan_nodes p₁) (made₁ + expr_nodes p₁) (row₁ + plan_rows_in p₁) p₂)
