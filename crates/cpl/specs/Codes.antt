-- The numbers of document 01: its refusal codes, and the numbers that stand for tags, functions and join types in a file.
use Rattle.std.specs.Prelude.{[], ◌∷◌, ℕ, ◌-◌, ◌^◌, ltb, ℤ, pos, negsuc, get_or, Bool, true, false, cond}
use Rattle.cpl.specs.Plan.{Op1, o_not, o_missing, Op2, o_add, o_sub, o_mul, o_eq, o_lt, o_and, o_or, Expr, col, lit, miss, un, bin, Fn, f_count, f_sum, f_min, f_max, JoinType, j_inner, j_left, j_right, j_full, j_lsemi, j_lanti, j_rsemi, j_ranti}

-- ── refusals ────────────────────────────────────────────────────────────────────────────────

abbrev pub SETTING : ℕ
SETTING = 1

abbrev pub MARK : ℕ
MARK = 2

abbrev pub CUT : ℕ
CUT = 3

abbrev pub VALUE : ℕ
VALUE = 4

abbrev pub MANY : ℕ
MANY = 5

abbrev pub TAIL : ℕ
TAIL = 6

abbrev pub CLASH : ℕ
CLASH = 7

abbrev pub UNKNOWN : ℕ
UNKNOWN = 8

abbrev pub WIDTH : ℕ
WIDTH = 9

abbrev pub FIELDS : ℕ
FIELDS = 10

abbrev pub REQUEST : ℕ
REQUEST = 11

abbrev pub LARGE : ℕ
LARGE = 12

abbrev pub ROOM : ℕ
ROOM = 13

-- document 02: "17 AMBIGUOUS if two fields fit, at each node between 8 and 9; 8 only if none does"
abbrev pub AMBIGUOUS : ℕ
AMBIGUOUS = 17

-- ── expressions: "3, 4 not E; is-missing E", "5 to 11 add, subtract, multiply, equal, less, and, or" ──

unfoldable pub op1_tag : Op1 → ℕ
op1_tag o_not = 3
op1_tag o_missing = 4

unfoldable pub op1_of : ℕ → Op1
op1_of t = get_or (o_not ∷ o_missing ∷ []) (t - 3) o_missing

unfoldable pub op2_tag : Op2 → ℕ
op2_tag o_add = 5
op2_tag o_sub = 6
op2_tag o_mul = 7
op2_tag o_eq = 8
op2_tag o_lt = 9
op2_tag o_and = 10
op2_tag o_or = 11

unfoldable pub op2_of : ℕ → Op2
op2_of t = get_or (o_add ∷ o_sub ∷ o_mul ∷ o_eq ∷ o_lt ∷ o_and ∷ o_or ∷ []) (t - 5) o_or

-- the outermost tag of an expression
unfoldable pub tag_of : Expr → ℕ
tag_of (col c) = 0
tag_of (lit z) = 1
tag_of miss = 2
tag_of (un o a) = op1_tag o
tag_of (bin o a b) = op2_tag o

abbrev pub alias_tag : ℕ
alias_tag = 12

-- "literal (8 bytes, two's complement)"
unfoldable pub signed : ℕ → ℤ
signed v = cond (ltb v (2 ^ 63)) (pos v) (negsuc (2 ^ 64 - 1 - v))

unfoldable pub unsigned : ℤ → ℕ
unsigned (pos n) = n
unsigned (negsuc n) = 2 ^ 64 - 1 - n

-- ── functions and join types ────────────────────────────────────────────────────────────────

-- "1 count of present values, 2 sum, 3 min, 4 max"
unfoldable pub fn_number : Fn → ℕ
fn_number f_count = 1
fn_number f_sum = 2
fn_number f_min = 3
fn_number f_max = 4

unfoldable pub fn_of : ℕ → Fn
fn_of x = get_or (f_count ∷ f_sum ∷ f_min ∷ f_max ∷ []) (x - 1) f_max

unfoldable pub join_number : JoinType → ℕ
join_number j_inner = 0
join_number j_left = 1
join_number j_right = 2
join_number j_full = 3
join_number j_lsemi = 4
join_number j_lanti = 5
join_number j_rsemi = 6
join_number j_ranti = 7

unfoldable pub join_of : ℕ → JoinType
join_of x = get_or (j_inner ∷ j_left ∷ j_right ∷ j_full ∷ j_lsemi ∷ j_lanti ∷ j_rsemi ∷ j_ranti ∷ []) x j_ranti

-- "flags (1 descending, 2 missing first, sum to 3)", "u8 0 or 1"
unfoldable pub bit : Bool → ℕ
bit true = 1
bit false = 0
