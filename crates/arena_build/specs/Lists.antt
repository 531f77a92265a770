-- What is written into items, and what building items answers.
use Rattle.std.specs.Prelude.{◌≡◌, List, Result, Ok, Err, ℕ, zero, suc, ◌+◌, ◌*◌, ◌/◌, ◌<◌, ◌≤◌, length, set}
use Rattle.cpl.specs.Exprs.{expr_tags}
use Rattle.cpl.specs.Plan.{Expr, Item, Pair, bare, col, item_expr, named, pair}
use Rattle.cpl.specs.Tests.{sum_of}
use Rattle.rules.specs.Merge.{item}
use Rattle.arena.specs.Cells.{Wf}
use Rattle.arena.specs.declared.Full.{Full}
use Rattle.arena.specs.Kept.{Kept}
use Rattle.arena.specs.Rows.{RowOk, RowsOk, item_at, items_at, root_at, row_item}
use Rattle.arena_build.specs.Build.{Made, Refused}
use Rattle.arena_build.specs.declared.Built.{Built}

-- the numbers of row i
unfoldable pub put_row : List ℕ → (i qualifier name mark root : ℕ) → List ℕ
put_row s i q n m k = set (set (set (set s (i * 4) q) (i * 4 + 1) n) (i * 4 + 2) m) (i * 4 + 3) k

-- an item whose expression has become e: document 01's rule of aliases
unfoldable pub again : Item → Expr → Item
again (bare c) e = item c e
again (named (pair zero n) f) e = item (pair zero n) e
again (named (pair (suc q) n) f) e = named (pair (suc q) n) e

-- r is the mark of an item that had the mark m and the pair c, now that its expression is e
pub record Marked (m : ℕ) (c : Pair) (e : Expr) (r : ℕ) : Type 0 where
  pub item_is : row_item r c e ≡ again (row_item m c e) e
  pub bare_is : r ≡ 0 → e ≡ col c
  pub small : r < 2

-- the item stands in row k, and its expression was built behind the nodes in use; the rows below k are kept
pub record Placed (it : Item) (k : ℕ) (rows cells : List ℕ) (used node more : ℕ) (rows' cells' : List ℕ) : Type 0 where
  pub made : Made (item_expr it) cells used node more cells'
  pub kept : Kept (k * 4) rows rows'
  pub means : item_at rows' cells' k ≡ it
  pub root : root_at rows' k ≡ node
  pub ok : RowOk rows' cells' k

-- there is no room for the item's expression; no row was written
pub record ItemRefused (it : Item) (rows cells : List ℕ) (used : ℕ) (rows' cells' : List ℕ) : Type 0 where
  pub refused : Refused (item_expr it) cells used cells'
  pub same : rows' ≡ rows

abbrev pub ItemAnswer : Item → ℕ → List ℕ → List ℕ → ℕ → Result Built Full → List ℕ → List ℕ → Type 0
ItemAnswer it k rows cells used (Ok b) rows' cells' = Placed it k rows cells used b.node b.used rows' cells'
ItemAnswer it k rows cells used (Err full) rows' cells' = ItemRefused it rows cells used rows' cells'

-- the nodes that a list's expressions take
unfoldable pub nodes_of : List Item → ℕ
nodes_of is = sum_of (λ i. expr_tags (item_expr i)) is

-- the items stand in the n rows from `to` on, and their expressions were built behind the nodes in use; the rows below `to` are kept
pub record Listing (is : List Item) (to n : ℕ) (rows cells : List ℕ) (used more : ℕ) (rows' cells' : List ℕ) : Type 0 where
  pub kept : Kept (used * 3) cells cells'
  pub rows_kept : Kept (to * 4) rows rows'
  pub means : items_at rows' cells' to n ≡ is
  pub ok : RowsOk rows' cells' to n
  pub below : (k : ℕ) → to ≤ k → k < to + n → root_at rows' k < more
  pub grown : more ≡ used + nodes_of is
  pub wf : Wf cells' more

-- there is no room for all of the expressions
pub record ListRefused (is : List Item) (to : ℕ) (rows cells : List ℕ) (used : ℕ) (rows' cells' : List ℕ) : Type 0 where
  pub kept : Kept (used * 3) cells cells'
  pub rows_kept : Kept (to * 4) rows rows'
  pub tight : length cells / 3 < used + nodes_of is

abbrev pub ListAnswer : List Item → ℕ → ℕ → List ℕ → List ℕ → ℕ → Result ℕ Full → List ℕ → List ℕ → Type 0
ListAnswer is to n rows cells used (Ok more) rows' cells' = Listing is to n rows cells used more rows' cells'
ListAnswer is to n rows cells used (Err full) rows' cells' = ListRefused is to rows cells used rows' cells'
