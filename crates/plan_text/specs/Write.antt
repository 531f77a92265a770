-- The parts of a plan as text: document 02, request 1. "pairs as `q1.c2` or `c2`, literals in decimal with a minus sign, operators in full brackets".
-- A text is said together with what follows it: `t rest` is the text t and then the rest. So texts in a row need no brackets.
use Rattle.std.specs.Prelude.{List, [], ◌∷◌, ◌++◌, Bool, true, false, ℕ, zero, suc, ℤ, pos, negsuc}
use Rattle.std.proofs.Math.Option.{Option, none, some}
use Rattle.cpl.specs.Plan.{Pair, pair, Op1, o_not, o_missing, Op2, o_add, o_sub, o_mul, o_eq, o_lt, o_and, o_or, Expr, col, lit, miss, un, bin, Item, bare, named, Key, key, Fn, f_count, f_sum, f_min, f_max, Call, rows, over, Agg, agg, Win, win, JoinType, j_inner, j_left, j_right, j_full, j_lsemi, j_lanti, j_rsemi, j_ranti, On, on, Leaf, scan, empty, Unary, projection, filter, sort, limit, aggregate, window, subquery_alias, distinct, Binary, union, join}
use Rattle.cpl.specs.ReadPlan.{Head, h0, h1, h2}
use Rattle.plan_text.specs.Decimal.{decimal}
use Rattle.plan_text.specs.Words.{w_projection, w_filter, w_sort, w_limit, w_aggregate, w_window, w_subqueryalias, w_union, w_distinct, w_join, w_scan, w_empty, w_q, w_c, w_dot_c, w_minus, w_missing, w_open, w_close, w_space, w_not, w_is_missing, w_add, w_sub, w_mul, w_eq, w_lt, w_and, w_or, w_open_list, w_close_list, w_comma, w_as, w_down, w_first, w_rows, w_number, w_count, w_sum, w_min, w_max, w_by, w_order, w_equals, w_none, w_columns, w_as_q, w_where, w_one_row, w_if, w_inner, w_left, w_right, w_full, w_leftsemi, w_leftanti, w_rightsemi, w_rightanti}

-- ── texts ───────────────────────────────────────────────────────────────────────────────────

abbrev pub Text : Type 0
Text = List ℕ → List ℕ

infixr 30 ◌·◌
-- one text, then another
abbrev pub ◌·◌ : Text → Text → Text
◌·◌ t u rest = t (u rest)

abbrev pub word : List ℕ → Text
word w rest = w ++ rest

abbrev pub nothing : Text
nothing rest = rest

-- the text, or nothing
unfoldable pub if : Bool → Text → Text
if true t = t
if false t = nothing

-- a number in decimal
unfoldable pub number : ℕ → Text
number n rest = decimal n ++ rest

-- "literals in decimal with a minus sign"
unfoldable pub integer : ℤ → Text
integer (pos n) = number n
integer (negsuc n) = word w_minus · number (suc n)

-- a list, `[A, B]` or `[]`: what follows a member, what follows the opening bracket, and all of it
unfoldable pub more_text : {A : Type 0} → (A → Text) → List A → Text
more_text t [] = word w_close_list
more_text t (x ∷ xs) = word w_comma · t x · more_text t xs

unfoldable pub members_text : {A : Type 0} → (A → Text) → List A → Text
members_text t [] = word w_close_list
members_text t (x ∷ xs) = t x · more_text t xs

unfoldable pub list_text : {A : Type 0} → (A → Text) → List A → Text
list_text t xs = word w_open_list · members_text t xs

-- ── pairs and expressions ───────────────────────────────────────────────────────────────────

-- "pairs as `q1.c2` or `c2`": the second where the qualifier is 0
unfoldable pub pair_text : Pair → Text
pair_text (pair zero n) = word w_c · number n
pair_text (pair (suc q) n) = word w_q · number (suc q) · word w_dot_c · number n

unfoldable pub op1_text : Op1 → Text
op1_text o_not = word w_not
op1_text o_missing = word w_is_missing

unfoldable pub op2_text : Op2 → Text
op2_text o_add = word w_add
op2_text o_sub = word w_sub
op2_text o_mul = word w_mul
op2_text o_eq = word w_eq
op2_text o_lt = word w_lt
op2_text o_and = word w_and
op2_text o_or = word w_or

-- "operators in full brackets": `(not E)`, `(is-missing E)`, `(E + E)`
unfoldable pub expr_text : Expr → Text
expr_text (col c) = pair_text c
expr_text (lit z) = integer z
expr_text miss = word w_missing
expr_text (un o a) = word w_open · op1_text o · expr_text a · word w_close
expr_text (bin o a b) = word w_open · expr_text a · word w_space · op2_text o · expr_text b · word w_close

-- ── members of lists ────────────────────────────────────────────────────────────────────────

-- a bare column, or `E as PAIR`
unfoldable pub item_text : Item → Text
item_text (bare c) = pair_text c
item_text (named c e) = expr_text e · word w_as · pair_text c

-- E, then ` down` for descending, then ` first` for missing first
unfoldable pub key_text : Key → Text
key_text (key d m e) = expr_text e · if d (word w_down) · if m (word w_first)

unfoldable pub fn_text : Fn → Text
fn_text f_count = word w_count
fn_text f_sum = word w_sum
fn_text f_min = word w_min
fn_text f_max = word w_max

-- `sum(E)`; the function without E has a word of its own
unfoldable pub call_text : List ℕ → Call → Text
call_text w rows = word w
call_text w (over f e) = fn_text f · expr_text e · word w_close

-- `CALL as PAIR`, where rows are counted by `rows()`
unfoldable pub agg_text : Agg → Text
agg_text (agg c g) = call_text w_rows g · word w_as · pair_text c

-- `CALL by [E, …] order [KEY, …] as PAIR`, where rows are numbered by `number()`
unfoldable pub win_text : Win → Text
win_text (win c g ps ks) = call_text w_number g · word w_by · list_text expr_text ps · word w_order · list_text key_text ks · word w_as · pair_text c

-- `E = E`
unfoldable pub on_text : On → Text
on_text (on a b) = expr_text a · word w_equals · expr_text b

-- ── nodes: "the kind in small letters, then its items in file order" ────────────────────────

-- ` if E` where there is a condition
unfoldable pub cond_text : Option Expr → Text
cond_text none = nothing
cond_text (some e) = word w_if · expr_text e

-- ` [I, …]`; "no list where the file has none"
unfoldable pub columns_text : Option (List ℕ) → Text
columns_text none = nothing
columns_text (some is) = word w_columns · members_text number is

-- ` where [E, …]`; "without filters nothing is added"
unfoldable pub filters_text : List Expr → Text
filters_text [] = nothing
filters_text (e ∷ es) = word w_where · members_text expr_text (e ∷ es)

unfoldable pub fetch_text : Option ℕ → Text
fetch_text none = word w_none
fetch_text (some n) = number n

unfoldable pub join_text : JoinType → Text
join_text j_inner = word w_inner
join_text j_left = word w_left
join_text j_right = word w_right
join_text j_full = word w_full
join_text j_lsemi = word w_leftsemi
join_text j_lanti = word w_leftanti
join_text j_rsemi = word w_rightsemi
join_text j_ranti = word w_rightanti

unfoldable pub leaf_text : Leaf → Text
leaf_text (scan t q is es) = word w_scan · number t · word w_as_q · number q · columns_text is · filters_text es
leaf_text (empty b cs) = word w_empty · if b (word w_one_row) · list_text pair_text cs

unfoldable pub unary_text : Unary → Text
unary_text (projection is) = word w_projection · list_text item_text is
unary_text (filter e) = word w_filter · expr_text e
unary_text (sort ks) = word w_sort · list_text key_text ks
unary_text (limit s n) = word w_limit · number s · word w_space · fetch_text n
unary_text (aggregate gs vs) = word w_aggregate · list_text item_text gs · word w_space · list_text agg_text vs
unary_text (window ws) = word w_window · list_text win_text ws
unary_text (subquery_alias q) = word w_subqueryalias · number q
unary_text distinct = word w_distinct

unfoldable pub binary_text : Binary → Text
binary_text union = word w_union
binary_text (join t os c) = word w_join · join_text t · list_text on_text os · cond_text c

-- a node without its inputs
unfoldable pub head_text : Head → Text
head_text (h0 h) = leaf_text h
head_text (h1 h) = unary_text h
head_text (h2 h) = binary_text h
