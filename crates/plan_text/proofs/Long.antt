-- How long a listing can be: so that its length is counted without overflow. Assumes nothing.
use mathlib.Core.Path.{ap, ◌∙◌}
use mathlib.Core.List.{List, [], ◌∷◌}
use mathlib.Core.Bool.{Bool, true, false}
use mathlib.Core.Option.{Option, none, some}
use Prim.Native.Nat.{ℕ, zero, suc, ◌+◌, ◌*◌, ◌/◌, ◌^◌, ◌<◌, ◌≤◌}
use native.Mathlib.Decide.{dec_lt}
use native.Mathlib.Nat.{mul-le-mul_left, pow-succ'}
use native.Mathlib.Omega.{arith}
use lib.IntN.{pos, negsuc}
use lib.ListN.{length, length-append}
use Rattle.cpl.specs.Lists.{All}
use Rattle.cpl.specs.Tests.{sum_of}
use Rattle.cpl.specs.Limits.{Version, IsVersion, is_1, is_2, max_tables, max_keys, max_nodes}
use Rattle.cpl.specs.Plan.{Pair, pair, Op1, o_not, o_missing, Op2, o_add, o_sub, o_mul, o_eq, o_lt, o_and, o_or, Expr, col, lit, miss, un, bin, Item, bare, named, Key, key, Fn, f_count, f_sum, f_min, f_max, Call, rows, over, Agg, agg, Win, win, JoinType, j_inner, j_left, j_right, j_full, j_lsemi, j_lanti, j_rsemi, j_ranti, On, on, scan, empty, projection, filter, sort, limit, aggregate, window, subquery_alias, distinct, union, join, Plan, leaf, unary, binary, Catalogue, names_of, Source, key_expr}
use Rattle.cpl.specs.Exprs.{call_exprs, cond_exprs, agg_exprs, expr_tags, item_tags, key_tags, agg_tags, win_tags, on_tags, leaf_tags, unary_tags, binary_tags, plan_tags, plan_nodes}
use Rattle.cpl.specs.ReadPlan.{Head, h0, h1, h2}
use Rattle.cpl.specs.Writable.{FitList, FitName, FitPair, FitExpr, FitItem, FitKey, FitCall, FitAgg, FitWin, FitOn, FitCond, FitFetch, FitColumns, FitLeaf, FitUnary, FitBinary, FitPlan, FitCatalogue, Writable}
use Rattle.cpl.proofs.HeadTrip.{FitHead, head_tags}
use Rattle.cpl.proofs.CatalogueTrip.{few-columns}
use Rattle.plan_text.specs.Decimal.{decimal}
use Rattle.plan_text.specs.Words.{w_projection, w_filter, w_sort, w_limit, w_aggregate, w_window, w_subqueryalias, w_join, w_scan, w_empty, w_space, w_columns, w_as_q, w_where, w_one_row, w_newline, w_level, w_down, w_first, w_as, w_rows, w_number, w_by, w_order, w_equals, w_if}
use Rattle.plan_text.specs.Write.{Text, ◌·◌, word, if, number, integer, more_text, members_text, list_text, pair_text, op1_text, op2_text, expr_text, item_text, key_text, fn_text, call_text, agg_text, win_text, on_text, cond_text, columns_text, filters_text, fetch_text, join_text, leaf_text, unary_text, binary_text, head_text}
use Rattle.plan_text.specs.Listing.{indent, line_text, plan_text, listing}
use Rattle.plan_text.proofs.Digits.{small, step}
use Rattle.plan_text.proofs.ListTrip.{all_both}

-- a text of at most n letters
pub record Upto (n : ℕ) (t : Text) : Type 0 where
  pub fits : (rest : List ℕ) → length (t rest) ≤ n + length rest

upto_then : {t u : Text} {a b : ℕ} → Upto a t → Upto b u → Upto (a + b) (t · u)
upto_then {u = u} p q = record { fits = λ rest. omega (arith, p.fits (u rest), q.fits rest) }

upto : {t : Text} {a b : ℕ} → a ≤ b → Upto a t → Upto b t
upto l p = record { fits = λ rest. omega (arith, p.fits rest) }

word-upto : (w : List ℕ) → Upto (length w) (word w)
word-upto w = record { fits = λ rest. omega (arith, length-append w rest) }

-- ── numbers ─────────────────────────────────────────────────────────────────────────────────

few : (k n : ℕ) → n < 10 ^ suc k → length (decimal n) ≤ suc k
few zero n h = let e = ap length (small n h) in omega arith
few (suc k) n h = elim (dec_lt n 10) [
  | yes l ↦ omega (arith, ap length (small n l))
  | no l ↦ omega (arith, ap length (step n (omega arith)) ∙ length-append (decimal (n / 10)) _, few k (n / 10) (omega (arith, pow-succ' 10 (suc k))))
]

-- a number of 64 digits of two has at most 20 of ten
pub number-upto : (n : ℕ) → n < 2 ^ 64 → Upto 20 (number n)
unfolding number
number-upto n h = record { fits = λ rest. omega (arith, length-append (decimal n) rest, few 19 n (omega arith)) }

-- ── lists ───────────────────────────────────────────────────────────────────────────────────

-- members of at most c letters, and d more for each of their tags
more-upto : {A : Type 0} {Good : A → Type 0} (t : A → Text) (c d : ℕ) (tags : A → ℕ) → ((x : A) → Good x → Upto (c + d * tags x) (t x)) → (xs : List A) → All Good xs →
    Upto (1 + ((c + 2) * length xs + d * sum_of tags xs)) (more_text t xs)
unfolding more_text sum_of
more-upto t c d tags f [] a = record { fits = λ rest. omega arith }
more-upto t c d tags f (x ∷ xs) a =
    let k = all_both a in
    upto (omega arith) (upto_then (word-upto (44 ∷ 32 ∷ [])) (upto_then (f x k.0) (more-upto t c d tags f xs k.1)))

members-upto : {A : Type 0} {Good : A → Type 0} (t : A → Text) (c d : ℕ) (tags : A → ℕ) → ((x : A) → Good x → Upto (c + d * tags x) (t x)) → (xs : List A) → All Good xs →
    Upto (1 + ((c + 2) * length xs + d * sum_of tags xs)) (members_text t xs)
unfolding members_text sum_of
members-upto t c d tags f [] a = record { fits = λ rest. omega arith }
members-upto t c d tags f (x ∷ xs) a =
    let k = all_both a in
    upto (omega arith) (upto_then (f x k.0) (more-upto t c d tags f xs k.1))

list-upto : {A : Type 0} {Good : A → Type 0} (t : A → Text) (c d : ℕ) (tags : A → ℕ) → ((x : A) → Good x → Upto (c + d * tags x) (t x)) → (most : ℕ) (xs : List A) → FitList Good most xs →
    Upto (2 + ((c + 2) * most + d * sum_of tags xs)) (list_text t xs)
unfolding list_text FitList
list-upto t c d tags f most xs a =
    upto (omega (arith, mul-le-mul_left (c + 2) a.0)) (upto_then (word-upto (91 ∷ [])) (members-upto t c d tags f xs a.1))

-- ── parts ───────────────────────────────────────────────────────────────────────────────────

pair-upto : (c : Pair) → FitPair c → Upto 43 (pair_text c)
unfolding pair_text FitPair FitName
pair-upto (pair zero n) f = upto (omega arith) (upto_then (word-upto (99 ∷ [])) (number-upto n (omega (arith, f.1.1))))
pair-upto (pair (suc q) n) f =
    upto_then (word-upto (113 ∷ [])) (upto_then (number-upto (suc q) (omega (arith, f.0))) (upto_then (word-upto (46 ∷ 99 ∷ [])) (number-upto n (omega (arith, f.1.1)))))

op1-upto : (o : Op1) → Upto 11 (op1_text o)
unfolding op1_text
op1-upto o_not = record { fits = λ rest. omega arith }
op1-upto o_missing = record { fits = λ rest. omega arith }

op2-upto : (o : Op2) → Upto 4 (op2_text o)
unfolding op2_text
op2-upto o_add = record { fits = λ rest. omega arith }
op2-upto o_sub = record { fits = λ rest. omega arith }
op2-upto o_mul = record { fits = λ rest. omega arith }
op2-upto o_eq = record { fits = λ rest. omega arith }
op2-upto o_lt = record { fits = λ rest. omega arith }
op2-upto o_and = record { fits = λ rest. omega arith }
op2-upto o_or = record { fits = λ rest. omega arith }

expr_upto : (e : Expr) → FitExpr e → Upto (48 * expr_tags e) (expr_text e)
unfolding expr_text FitExpr expr_tags integer
expr_upto (col c) f = upto (omega arith) (pair-upto c f)
expr_upto (lit (pos n)) f = upto (omega arith) (number-upto n (omega (arith, f)))
expr_upto (lit (negsuc n)) f = upto (omega arith) (upto_then (word-upto (45 ∷ [])) (number-upto (suc n) (omega (arith, f))))
expr_upto miss f = record { fits = λ rest. omega arith }
expr_upto (un o a) f = upto (omega arith) (upto_then (word-upto (40 ∷ [])) (upto_then (op1-upto o) (upto_then (expr_upto a f) (word-upto (41 ∷ [])))))
expr_upto (bin o a b) f =
    upto (omega arith)
    (upto_then (word-upto (40 ∷ [])) (upto_then (expr_upto a f.0) (upto_then (word-upto (32 ∷ [])) (upto_then (op2-upto o) (upto_then (expr_upto b f.1) (word-upto (41 ∷ [])))))))

if-upto : (b : Bool) {n : ℕ} {t : Text} → Upto n t → Upto n (if b t)
unfolding if
if-upto true p = p
if-upto false p = record { fits = λ rest. omega arith }

item-upto : (i : Item) → FitItem i → Upto (0 + 100 * item_tags i) (item_text i)
unfolding item_text FitItem item_tags
item-upto (bare c) f = upto (omega arith) (pair-upto c f)
item-upto (named c e) f = upto (omega arith) (upto_then (expr_upto e f.1) (upto_then (word-upto (32 ∷ 97 ∷ 115 ∷ 32 ∷ [])) (pair-upto c f.0)))

key-upto : (k : Key) → FitKey k → Upto (11 + 48 * key_tags k) (key_text k)
unfolding key_text FitKey key_tags key_expr
key-upto (key d m e) f =
    upto (omega arith) (upto_then (expr_upto e f) (upto_then (if-upto d (word-upto w_down)) (if-upto m (word-upto w_first))))

fn_upto : (g : Fn) → Upto 6 (fn_text g)
unfolding fn_text
fn_upto f_count = record { fits = λ rest. omega arith }
fn_upto f_sum = record { fits = λ rest. omega arith }
fn_upto f_min = record { fits = λ rest. omega arith }
fn_upto f_max = record { fits = λ rest. omega arith }

call_upto : (w : List ℕ) → length w ≤ 8 → (g : Call) → FitCall g → Upto (8 + 48 * sum_of expr_tags (call_exprs g)) (call_text w g)
unfolding call_text FitCall call_exprs sum_of
call_upto w l rows f = upto (omega arith) (word-upto w)
call_upto w l (over g e) f = upto (omega arith) (upto_then (fn_upto g) (upto_then (expr_upto e f) (word-upto (41 ∷ []))))

agg-upto : (a : Agg) → FitAgg a → Upto (55 + 48 * agg_tags a) (agg_text a)
unfolding agg_text FitAgg agg_tags agg_exprs
agg-upto (agg c g) f = upto (omega arith) (upto_then (call_upto w_rows (omega arith) g f.1) (upto_then (word-upto (32 ∷ 97 ∷ 115 ∷ 32 ∷ [])) (pair-upto c f.0)))

bare_expr_upto : (e : Expr) → FitExpr e → Upto (0 + 48 * expr_tags e) (expr_text e)
bare_expr_upto e f = upto (omega arith) (expr_upto e f)

win-upto : (a : Win) → FitWin a → Upto (311 + 48 * win_tags a) (win_text a)
unfolding win_text FitWin win_tags
win-upto (win c g ps ks) f =
    upto (omega arith)
    (upto_then (call_upto w_number (omega arith) g f.1)
    (upto_then (word-upto w_by)
    (upto_then (list-upto expr_text 0 48 expr_tags bare_expr_upto max_keys ps f.2)
    (upto_then (word-upto w_order)
    (upto_then (list-upto key_text 11 48 key_tags key-upto max_keys ks f.3) (upto_then (word-upto w_as) (pair-upto c f.0)))))))

on-upto : (o : On) → FitOn o → Upto (3 + 48 * on_tags o) (on_text o)
unfolding on_text FitOn on_tags
on-upto (on a b) f = upto (omega arith) (upto_then (expr_upto a f.0) (upto_then (word-upto w_equals) (expr_upto b f.1)))

-- ── nodes ───────────────────────────────────────────────────────────────────────────────────

cond-upto : (c : Option Expr) → FitCond c → Upto (4 + 48 * sum_of expr_tags (cond_exprs c)) (cond_text c)
unfolding cond_text FitCond cond_exprs sum_of
cond-upto none f = record { fits = λ rest. omega arith }
cond-upto (some e) f = upto (omega arith) (upto_then (word-upto w_if) (expr_upto e f))

fetch_upto : (n : Option ℕ) → FitFetch n → Upto 20 (fetch_text n)
unfolding fetch_text FitFetch
fetch_upto none f = record { fits = λ rest. omega arith }
fetch_upto (some n) f = number-upto n (omega (arith, f))

join-upto : (t : JoinType) → Upto 13 (join_text t)
unfolding join_text
join-upto j_inner = record { fits = λ rest. omega arith }
join-upto j_left = record { fits = λ rest. omega arith }
join-upto j_right = record { fits = λ rest. omega arith }
join-upto j_full = record { fits = λ rest. omega arith }
join-upto j_lsemi = record { fits = λ rest. omega arith }
join-upto j_lanti = record { fits = λ rest. omega arith }
join-upto j_rsemi = record { fits = λ rest. omega arith }
join-upto j_ranti = record { fits = λ rest. omega arith }

-- the limits of every version
record Limited (v : Version) : Type 0 where
  items : v.max_items ≤ 512
  columns : v.max_columns ≤ 512
  filters : v.max_filters ≤ 16

limited : {v : Version} → IsVersion v → Limited v
limited is_1 = record { items = omega arith; columns = omega arith; filters = omega arith }
limited is_2 = record { items = omega arith; columns = omega arith; filters = omega arith }

plain-number-upto : (columns : ℕ) → columns ≤ 512 → (i : ℕ) → i < columns → Upto (20 + 0 * 0) (number i)
plain-number-upto columns l i f = upto (omega arith) (number-upto i (omega arith))

columns-upto : (v : Version) → v.max_columns ≤ 512 → (columns : ℕ) → columns ≤ 512 → (is : Option (List ℕ)) → FitColumns v columns is → Upto 11267 (columns_text is)
unfolding columns_text FitColumns FitList
columns-upto v m columns l none f = record { fits = λ rest. omega arith }
columns-upto v m columns l (some is) f =
    upto (omega (arith, f.0)) (upto_then (word-upto w_columns) (members-upto number 20 0 (λ i. 0) (plain-number-upto columns l) is f.1))

filters-upto : (most : ℕ) → most ≤ 16 → (es : List Expr) → FitList FitExpr most es → Upto (41 + 48 * sum_of expr_tags es) (filters_text es)
unfolding filters_text FitList
filters-upto most l [] f = record { fits = λ rest. omega arith }
filters-upto most l (e ∷ es) f = upto (omega (arith, f.0)) (upto_then (word-upto w_where) (members-upto expr_text 0 48 expr_tags bare_expr_upto (e ∷ es) f.1))

pair-upto-each : (c : Pair) → FitPair c → Upto (43 + 0 * 0) (pair_text c)
pair-upto-each c f = upto (omega arith) (pair-upto c f)

fit-tables : (C : Catalogue) → FitCatalogue C → length C.tables ≤ max_tables
unfolding FitList
fit-tables C t = t.tables_fit.0

-- the letters of a node
head-upto : (C : Catalogue) → FitCatalogue C → (h : Head) → FitHead C h → Upto (161000 + 100 * head_tags h) (head_text h)
unfolding head_text leaf_text unary_text binary_text FitLeaf FitUnary FitBinary FitName leaf_tags unary_tags binary_tags
head-upto C t (h0 (scan x q is es)) f =
    let v = limited t.version_is in
    upto (omega arith)
    (upto_then (word-upto w_scan)
    (upto_then (number-upto x (omega (arith, f.0, fit-tables C t)))
    (upto_then (word-upto w_as_q)
    (upto_then (number-upto q (omega (arith, f.1.1)))
    (upto_then (columns-upto C.version v.columns (length (names_of C x)) (omega (arith, few-columns C t x, v.columns)) is f.2) (filters-upto C.version.max_filters v.filters es f.3))))))
head-upto C t (h0 (empty b cs)) f =
    upto (omega (arith, (limited t.version_is).items)) (upto_then (word-upto w_empty) (upto_then (if-upto b (word-upto w_one_row)) (list-upto pair_text 43 0 (λ c. 0) pair-upto-each C.version.max_items cs f)))
head-upto C t (h1 (projection is)) f = upto (omega (arith, (limited t.version_is).items)) (upto_then (word-upto w_projection) (list-upto item_text 0 100 item_tags item-upto C.version.max_items is f))
head-upto C t (h1 (filter e)) f = upto (omega arith) (upto_then (word-upto w_filter) (expr_upto e f))
head-upto C t (h1 (sort ks)) f = upto (omega arith) (upto_then (word-upto w_sort) (list-upto key_text 11 48 key_tags key-upto max_keys ks f.1))
head-upto C t (h1 (limit s n)) f =
    upto (omega arith) (upto_then (word-upto w_limit) (upto_then (number-upto s (omega (arith, f.0))) (upto_then (word-upto w_space) (fetch_upto n f.1))))
head-upto C t (h1 (aggregate gs vs)) f =
    upto (omega (arith, (limited t.version_is).items))
    (upto_then (word-upto w_aggregate)
    (upto_then (list-upto item_text 0 100 item_tags item-upto C.version.max_items gs f.1) (upto_then (word-upto w_space) (list-upto agg_text 55 48 agg_tags agg-upto C.version.max_items vs f.2))))
head-upto C t (h1 (window ws)) f = upto (omega (arith, (limited t.version_is).items)) (upto_then (word-upto w_window) (list-upto win_text 311 48 win_tags win-upto C.version.max_items ws f.1))
head-upto C t (h1 (subquery_alias q)) f = upto (omega arith) (upto_then (word-upto w_subqueryalias) (number-upto q (omega (arith, f.1))))
head-upto C t (h1 distinct) f = record { fits = λ rest. omega arith }
head-upto C t (h2 union) f = record { fits = λ rest. omega arith }
head-upto C t (h2 (join j os c)) f =
    upto (omega arith) (upto_then (word-upto w_join) (upto_then (join-upto j) (upto_then (list-upto on_text 3 48 on_tags on-upto max_keys os f.0) (cond-upto c f.1))))

-- ── plans ───────────────────────────────────────────────────────────────────────────────────

indent-upto : (level : ℕ) → Upto (2 * level) (indent level)
unfolding indent
indent-upto zero = record { fits = λ rest. omega arith }
indent-upto (suc level) = upto (omega arith) (upto_then (word-upto w_level) (indent-upto level))

line-upto : (C : Catalogue) → FitCatalogue C → (level : ℕ) → level ≤ max_nodes → (h : Head) → FitHead C h → Upto (161600 + 100 * head_tags h) (line_text level h)
unfolding line_text
line-upto C t level l h f = upto (omega arith) (upto_then (indent-upto level) (upto_then (head-upto C t h f) (word-upto w_newline)))

plan-upto : (C : Catalogue) → FitCatalogue C → (p : Plan) → FitPlan C p → (level : ℕ) → level + plan_nodes p ≤ max_nodes → Upto (161600 * plan_nodes p + 100 * plan_tags p) (plan_text level p)
unfolding plan_text FitPlan plan_nodes plan_tags
plan-upto C t (leaf h) f level l = line-upto C t level (omega arith) (h0 h) f
plan-upto C t (unary h p) f level l =
    upto (omega arith) (upto_then (line-upto C t level (omega arith) (h1 h) f.0) (plan-upto C t p f.1 (suc level) (omega arith)))
plan-upto C t (binary h p₁ p₂) f level l =
    upto (omega arith)
    (upto_then (line-upto C t level (omega arith) (h2 h) f.0) (upto_then (plan-upto C t p₁ f.1 (suc level) (omega arith)) (plan-upto C t p₂ f.2 (suc level) (omega arith))))

-- the listing of a plan that a file holds
pub listing_short : (s : Source) → Writable s → length (listing s.plan) ≤ 2 ^ 26
unfolding listing
listing_short s w =
    let u = plan-upto s.catalogue w.tables s.plan w.nodes_fit 0 (omega (arith, w.few_nodes)) in
    omega (arith, u.fits [], w.few_nodes, w.few_tags)
