-- How a lent array of numbers stands for expressions. Node i is the three numbers at 3 * i: its tag, x and y.
use Rattle.std.specs.Prelude.{◌≡◌, cond, List, ℕ, zero, suc, ◌+◌, ◌*◌, ◌<◌, ◌≤◌, eqb, ltb, length, get_or}
use Rattle.cpl.specs.Codes.{op1_of, op2_of, signed}
use Rattle.cpl.specs.Plan.{Expr, col, lit, miss, un, bin, pair}

abbrev pub tag_at : List ℕ → ℕ → ℕ
tag_at s i = get_or s (i * 3) 0

abbrev pub x_at : List ℕ → ℕ → ℕ
x_at s i = get_or s (i * 3 + 1) 0

abbrev pub y_at : List ℕ → ℕ → ℕ
y_at s i = get_or s (i * 3 + 2) 0

-- t, x and y are the numbers of node i
pub record NodeIs (s : List ℕ) (i t x y : ℕ) : Type 0 where
  pub tag_is : t ≡ tag_at s i
  pub x_is : x ≡ x_at s i
  pub y_is : y ≡ y_at s i

-- a node by document 01's table of tags: 0 column (x its qualifier, y its name), 1 literal (x its 64 bits), 2 missing, 3 and 4 with
-- one operand, 5 to 11 with two
unfoldable pub node_of : (tag x y : ℕ) (first second : Expr) → Expr
node_of t x y a b = cond (eqb t 0) (col (pair x y)) (cond (eqb t 1) (lit (signed x)) (cond (eqb t 2) miss (cond (ltb t 5) (un (op1_of t) a) (bin (op2_of t) a b))))

-- an operand that does not stand below its node is read as `miss`: so every list of numbers has a meaning
unfoldable pub expr_fuel : ℕ → List ℕ → ℕ → Expr
expr_fuel zero s i = miss
expr_fuel (suc f) s i =
    let a = expr_fuel f s (x_at s i) in
    let b = expr_fuel f s (y_at s i) in
    node_of (tag_at s i) (x_at s i) (y_at s i) (cond (ltb (x_at s i) i) a miss) (cond (ltb (y_at s i) i) b miss)

-- the expression that node i stands for
unfoldable pub expr_at : List ℕ → ℕ → Expr
expr_at s i = expr_fuel (suc i) s i

-- a node lies in the array, has a tag of the table, the 16-bit numbers of a column, and its operands below it
pub record NodeOk (s : List ℕ) (i : ℕ) : Type 0 where
  pub inside : i * 3 + 2 < length s
  pub known : tag_at s i < 12
  pub column : tag_at s i ≡ 0 → (x_at s i < 65536) × (y_at s i < 65536)
  pub first : 3 ≤ tag_at s i → x_at s i < i
  pub second : 5 ≤ tag_at s i → y_at s i < i

-- the nodes below n are well formed
unfoldable pub Wf : List ℕ → ℕ → Type 0
Wf s n = (k : ℕ) → k < n → NodeOk s k
