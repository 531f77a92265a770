-- What the rows of a node stand for, whatever numbers they hold, and when code can go through them. Row i is the four numbers at 4 * i.
use Rattle.std.specs.Prelude.{List, [], ◌∷◌, ℕ, zero, suc, ◌+◌, ◌*◌, ◌/◌, ◌%◌, ◌<◌, ◌≤◌, eqb, length, get_or}
use Rattle.cpl.specs.Codes.{fn_of}
use Rattle.cpl.specs.Plan.{Pair, Expr, Key, key, Call, rows, over, Agg, agg, Win, win, On, on}
use Rattle.cpl.specs.Read.{pick}
use Rattle.arena.specs.Cells.{expr_at, Wf}
use Rattle.arena.specs.Rows.{pair_at, mark_at, root_at}

-- ── lists ───────────────────────────────────────────────────────────────────────────────────

-- `count` things from row `first` on, where the thing at row i takes `size i` rows
unfoldable pub list_at : {A : Type 0} → (read : ℕ → A) (size : ℕ → ℕ) (first count : ℕ) → List A
list_at read size i zero = []
list_at read size i (suc n) = read i ∷ list_at read size (i + size i) n

-- each of them is so
unfoldable pub AllAt : (Ok : ℕ → Type 0) (size : ℕ → ℕ) (first count : ℕ) → Type 0
AllAt Ok size i zero = Unit {0}
AllAt Ok size i (suc n) = Ok i × AllAt Ok size (i + size i) n

-- things of one row
abbrev pub one : ℕ → ℕ
one i = 1

-- `count` things of one row lie in the array, and each is so
pub record EachOk (Ok : ℕ → Type 0) (s : List ℕ) (first count : ℕ) : Type 0 where
  pub room : (first + count) * 4 ≤ length s
  pub each : (k : ℕ) → first ≤ k → k < first + count → Ok k

-- ── expressions and keys ────────────────────────────────────────────────────────────────────

-- the first number of a row: the flags of a key, the index of a column, the number of a window's keys
abbrev pub number_at : List ℕ → ℕ → ℕ
number_at s i = get_or s (i * 4) 0

-- the expressions whose roots stand in `count` rows
abbrev pub exprs_at : (s cells : List ℕ) (first count : ℕ) → List Expr
exprs_at s cells = list_at (λ i. expr_at cells (root_at s i)) one

-- a key by its flags
unfoldable pub key_of : (flags : ℕ) → Expr → Key
key_of x e = key (eqb (x % 2) 1) (eqb (x / 2) 1) e

-- the key of a row: flags, 0, 0, root
unfoldable pub key_at : (s cells : List ℕ) → ℕ → Key
key_at s cells i = key_of (number_at s i) (expr_at cells (root_at s i))

abbrev pub keys_at : (s cells : List ℕ) (first count : ℕ) → List Key
keys_at s cells = list_at (key_at s cells) one

-- a row lies in the array
abbrev pub Inside : List ℕ → ℕ → Type 0
Inside s i = i * 4 + 3 < length s

pub record ExprOk (s cells : List ℕ) (i : ℕ) : Type 0 where
  pub inside : Inside s i
  pub node : Wf cells (root_at s i + 1)

pub record KeyOk (s cells : List ℕ) (i : ℕ) : Type 0 where
  pub inside : Inside s i
  pub flags : number_at s i < 4
  pub node : Wf cells (root_at s i + 1)

-- ── aggregates and windows ──────────────────────────────────────────────────────────────────

-- a function by its number; 0 has no expression
unfoldable pub call_of : (function : ℕ) → Expr → Call
call_of f e = pick (eqb f 0) rows (over (fn_of f) e)

-- the aggregate of a row: pair, function, root
unfoldable pub agg_at : (s cells : List ℕ) → ℕ → Agg
agg_at s cells i = agg (pair_at s i) (call_of (mark_at s i) (expr_at cells (root_at s i)))

abbrev pub aggs_at : (s cells : List ℕ) (first count : ℕ) → List Agg
aggs_at s cells = list_at (agg_at s cells) one

pub record AggOk (s cells : List ℕ) (i : ℕ) : Type 0 where
  pub inside : Inside s i
  pub function : mark_at s i < 5
  pub node : 0 < mark_at s i → Wf cells (root_at s i + 1)

-- a window from row i on: (pair, function, parts), the parts, the row with the number of keys and the function's root, the keys
abbrev pub keys_row : List ℕ → ℕ → ℕ
keys_row s i = i + 1 + root_at s i

-- its last row
abbrev pub last_row : List ℕ → ℕ → ℕ
last_row s i = keys_row s i + number_at s (keys_row s i)

unfoldable pub win_at : (s cells : List ℕ) → ℕ → Win
win_at s cells i =
    win (pair_at s i) (call_of (mark_at s i) (expr_at cells (root_at s (keys_row s i))))
    (exprs_at s cells (i + 1) (root_at s i)) (keys_at s cells (keys_row s i + 1) (number_at s (keys_row s i)))

-- the rows that it takes
unfoldable pub win_size : List ℕ → ℕ → ℕ
win_size s i = 2 + (root_at s i + number_at s (keys_row s i))

abbrev pub wins_at : (s cells : List ℕ) (first count : ℕ) → List Win
wins_at s cells = list_at (win_at s cells) (win_size s)

pub record WinOk (s cells : List ℕ) (i : ℕ) : Type 0 where
  pub inside : Inside s (last_row s i)
  pub function : mark_at s i < 5
  pub parts : EachOk (ExprOk s cells) s (i + 1) (root_at s i)
  pub keys : EachOk (KeyOk s cells) s (keys_row s i + 1) (number_at s (keys_row s i))
  pub node : 0 < mark_at s i → Wf cells (root_at s (keys_row s i) + 1)

-- ── pairs of a join, fields of an Empty, columns of a scan ──────────────────────────────────

-- a row with two roots
unfoldable pub on_at : (s cells : List ℕ) → ℕ → On
on_at s cells i = on (expr_at cells (mark_at s i)) (expr_at cells (root_at s i))

abbrev pub ons_at : (s cells : List ℕ) (first count : ℕ) → List On
ons_at s cells = list_at (on_at s cells) one

pub record OnOk (s cells : List ℕ) (i : ℕ) : Type 0 where
  pub inside : Inside s i
  pub left : Wf cells (mark_at s i + 1)
  pub right : Wf cells (root_at s i + 1)

abbrev pub pairs_at : (s : List ℕ) (first count : ℕ) → List Pair
pairs_at s = list_at (pair_at s) one

abbrev pub columns_at : (s : List ℕ) (first count : ℕ) → List ℕ
columns_at s = list_at (number_at s) one
