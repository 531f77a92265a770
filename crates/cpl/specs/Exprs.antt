-- The expressions of a node, the columns that they use and the tags that they count.
use Rattle.std.specs.Prelude.{List, [], ◌∷◌, ◌++◌, map, Bool, true, false, cond, ◌&&◌, ◌||◌, ℕ, suc, ◌+◌, eqb, leb}
use Rattle.std.proofs.Math.Option.{Option, none, some}
use Rattle.cpl.specs.Tests.{concat_map, sum_of}
use Rattle.cpl.specs.Plan.{Pair, pair, Expr, col, lit, miss, un, bin, Item, bare, named, Key, Call, rows, over, Agg, agg, Win, win, On, on, Leaf, scan, empty, Unary, projection, filter, sort, limit, aggregate, window, subquery_alias, distinct, Binary, union, join, Plan, leaf, unary, binary, item_expr, key_expr}

-- ── the expressions of a node ───────────────────────────────────────────────────────────────

unfoldable pub call_exprs : Call → List Expr
call_exprs rows = []
call_exprs (over f e) = e ∷ []

unfoldable pub agg_exprs : Agg → List Expr
agg_exprs (agg c f) = call_exprs f

unfoldable pub win_exprs : Win → List Expr
win_exprs (win c f ps ks) = call_exprs f ++ (ps ++ map key_expr ks)

unfoldable pub cond_exprs : Option Expr → List Expr
cond_exprs none = []
cond_exprs (some e) = e ∷ []

-- a scan's filters, over all columns of its table
unfoldable pub leaf_exprs : Leaf → List Expr
leaf_exprs (scan t q is es) = es
leaf_exprs (empty b cs) = []

-- over the input's fields; in file order, but that a window's E comes before its parts and keys
unfoldable pub unary_exprs : Unary → List Expr
unary_exprs (projection is) = map item_expr is
unary_exprs (filter e) = e ∷ []
unary_exprs (sort ks) = map key_expr ks
unary_exprs (limit s n) = []
unary_exprs (aggregate gs vs) = map item_expr gs ++ concat_map agg_exprs vs
unary_exprs (window ws) = concat_map win_exprs ws
unary_exprs (subquery_alias q) = []
unary_exprs distinct = []

-- ── columns ─────────────────────────────────────────────────────────────────────────────────

-- "A column reference without a qualifier shall also find a qualified field of that name; a reference with one still needs the exact pair."
unfoldable pub fits : (reference field : Pair) → Bool
fits (pair q n) (pair r m) = eqb n m && (eqb q 0 || eqb q r)

unfoldable pub next : Option ℕ → Option ℕ
next none = none
next (some i) = some (suc i)

-- the place of the field that a reference finds: "the first that fits"
unfoldable pub find : Pair → List Pair → Option ℕ
find c [] = none
find c (f ∷ fs) = cond (fits c f) (some 0) (next (find c fs))

unfoldable pub present : Option ℕ → Bool
present none = false
present (some i) = true

-- how many of the fields fit a reference
unfoldable pub fitting : Pair → List Pair → ℕ
fitting c [] = 0
fitting c (f ∷ fs) = cond (fits c f) (suc (fitting c fs)) (fitting c fs)

-- does every reference of the expression find a field? "8 only if none does"
unfoldable pub known : List Pair → Expr → Bool
known fs (col c) = present (find c fs)
known fs (lit z) = true
known fs miss = true
known fs (un o a) = known fs a
known fs (bin o a b) = known fs a && known fs b

-- does no second field fit a reference of the expression? "17 AMBIGUOUS if two fields fit"
unfoldable pub definite : List Pair → Expr → Bool
definite fs (col c) = leb (fitting c fs) 1
definite fs (lit z) = true
definite fs miss = true
definite fs (un o a) = definite fs a
definite fs (bin o a b) = definite fs a && definite fs b

-- the places that the references of the expression find
unfoldable pub found : Option ℕ → List ℕ
found none = []
found (some i) = i ∷ []

unfoldable pub places : List Pair → Expr → List ℕ
places fs (col c) = found (find c fs)
places fs (lit z) = []
places fs miss = []
places fs (un o a) = places fs a
places fs (bin o a b) = places fs a ++ places fs b

-- the references of the expression, as they are written
unfoldable pub references : Expr → List Pair
references (col c) = c ∷ []
references (lit z) = []
references miss = []
references (un o a) = references a
references (bin o a b) = references a ++ references b

-- does the expression use a column?
unfoldable pub columns? : Expr → Bool
columns? (col c) = true
columns? (lit z) = false
columns? miss = false
columns? (un o a) = columns? a
columns? (bin o a b) = columns? a || columns? b

-- ── tags ────────────────────────────────────────────────────────────────────────────────────

-- the expression tags in a file: one for each column, literal, missing and operator, and one for each alias
unfoldable pub expr_tags : Expr → ℕ
expr_tags (col c) = 1
expr_tags (lit z) = 1
expr_tags miss = 1
expr_tags (un o a) = suc (expr_tags a)
expr_tags (bin o a b) = suc (expr_tags a + expr_tags b)

unfoldable pub item_tags : Item → ℕ
item_tags (bare c) = 1
item_tags (named c e) = suc (expr_tags e)

unfoldable pub key_tags : Key → ℕ
key_tags k = expr_tags (key_expr k)

unfoldable pub agg_tags : Agg → ℕ
agg_tags a = sum_of expr_tags (agg_exprs a)

unfoldable pub win_tags : Win → ℕ
win_tags (win c f ps ks) = sum_of expr_tags ps + (sum_of key_tags ks + sum_of expr_tags (call_exprs f))

unfoldable pub on_tags : On → ℕ
on_tags (on a b) = expr_tags a + expr_tags b

unfoldable pub leaf_tags : Leaf → ℕ
leaf_tags (scan t q is es) = sum_of expr_tags es
leaf_tags (empty b cs) = 0

unfoldable pub unary_tags : Unary → ℕ
unary_tags (projection is) = sum_of item_tags is
unary_tags (filter e) = expr_tags e
unary_tags (sort ks) = sum_of key_tags ks
unary_tags (limit s n) = 0
unary_tags (aggregate gs vs) = sum_of item_tags gs + sum_of agg_tags vs
unary_tags (window ws) = sum_of win_tags ws
unary_tags (subquery_alias q) = 0
unary_tags distinct = 0

unfoldable pub binary_tags : Binary → ℕ
binary_tags union = 0
binary_tags (join t os c) = sum_of on_tags os + sum_of expr_tags (cond_exprs c)

unfoldable pub plan_tags : Plan → ℕ
plan_tags (leaf h) = leaf_tags h
plan_tags (unary h p) = unary_tags h + plan_tags p
plan_tags (binary h p₁ p₂) = binary_tags h + (plan_tags p₁ + plan_tags p₂)

-- the nodes of a plan
unfoldable pub plan_nodes : Plan → ℕ
plan_nodes (leaf h) = 1
plan_nodes (unary h p) = suc (plan_nodes p)
plan_nodes (binary h p₁ p₂) = suc (plan_nodes p₁ + plan_nodes p₂)
