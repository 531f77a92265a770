-- How a lent array of numbers stands for items. Row i is the four numbers at 4 * i: qualifier, name, mark (0 a bare column, else an
-- alias) and the node of its expression. A list is the rows first, first + 1, ..: count of them.
use Rattle.std.specs.Prelude.{◌≡◌, cond, List, [], ◌∷◌, ℕ, zero, suc, ◌+◌, ◌*◌, ◌<◌, ◌≤◌, eqb, length, get_or}
use Rattle.cpl.specs.Plan.{Expr, col, Pair, pair, Item, bare, named}
use Rattle.arena.specs.Cells.{expr_at, Wf}

abbrev pub pair_at : List ℕ → ℕ → Pair
pair_at s i = pair (get_or s (i * 4) 0) (get_or s (i * 4 + 1) 0)

abbrev pub mark_at : List ℕ → ℕ → ℕ
mark_at s i = get_or s (i * 4 + 2) 0

abbrev pub root_at : List ℕ → ℕ → ℕ
root_at s i = get_or s (i * 4 + 3) 0

-- q, n, m and k are the numbers of row i
pub record RowIs (s : List ℕ) (i q n m k : ℕ) : Type 0 where
  pub pair_is : pair q n ≡ pair_at s i
  pub mark_is : m ≡ mark_at s i
  pub root_is : k ≡ root_at s i

-- the item with a mark, a pair and an expression
unfoldable pub row_item : (mark : ℕ) → Pair → Expr → Item
row_item m c e = cond (eqb m 0) (bare c) (named c e)

unfoldable pub item_at : (items cells : List ℕ) → ℕ → Item
item_at s cells i = row_item (mark_at s i) (pair_at s i) (expr_at cells (root_at s i))

unfoldable pub items_at : (items cells : List ℕ) (first count : ℕ) → List Item
items_at s cells i zero = []
items_at s cells i (suc n) = item_at s cells i ∷ items_at s cells (suc i) n

-- a row lies in the array, its node is well formed, and a bare column's node is that column
pub record RowOk (s cells : List ℕ) (i : ℕ) : Type 0 where
  pub inside : i * 4 + 3 < length s
  pub node : Wf cells (root_at s i + 1)
  pub bare : mark_at s i ≡ 0 → expr_at cells (root_at s i) ≡ col (pair_at s i)

-- the rows of a list lie in the array and are such rows
pub record RowsOk (s cells : List ℕ) (first count : ℕ) : Type 0 where
  pub room : (first + count) * 4 ≤ length s
  pub each : (k : ℕ) → first ≤ k → k < first + count → RowOk s cells k
