-- What a node with one input makes of the input's fields and rows.
use Rattle.std.specs.Prelude.{List, [], ◌∷◌, ◌++◌, map, Bool, not, ◌&&◌, ℕ, suc, ◌+◌, pos, length}
use Rattle.cpl.specs.Plan.{Pair, Expr, Item, Key, rows, over, Agg, agg, Win, win, Unary, projection, filter, sort, limit, aggregate, window, subquery_alias, distinct, item_expr}
use Rattle.meaning.specs.Value.{Val, num, Row, yes?, same_row}
use Rattle.meaning.specs.Eval.{eval, eval_all}
use Rattle.meaning.specs.Lists.{filter_b, firsts, page, around}
use Rattle.meaning.specs.Order.{before, sort_by}
use Rattle.meaning.specs.Functions.{call_over}

-- of each row the values of the items
unfoldable pub projection_rows : List Item → List Pair → List Row → List Row
projection_rows is fs rs = map (λ r. eval_all fs r (map item_expr is)) rs

-- ── Aggregate ───────────────────────────────────────────────────────────────────────────────

-- the groups, each by the values of the group list. "No groups: exactly one row."
unfoldable pub group_keys : (groups : List Expr) → List Pair → List Row → List Row
group_keys [] fs rs = [] ∷ []
group_keys (g ∷ gs) fs rs = firsts same_row (map (λ r. eval_all fs r (g ∷ gs)) rs)

-- the rows of a group
unfoldable pub members : (groups : List Expr) → List Pair → List Row → (key : Row) → List Row
members gs fs rs k = filter_b (λ r. same_row (eval_all fs r gs) k) rs

unfoldable pub agg_value : List Pair → List Row → Agg → Val
agg_value fs rs (agg c f) = call_over fs rs f

-- "groups, then aggregates"
unfoldable pub group_row : (groups : List Expr) → List Agg → List Pair → List Row → (key : Row) → Row
group_row gs vs fs rs k = k ++ map (agg_value fs (members gs fs rs k)) vs

unfoldable pub aggregate_rows : (groups : List Expr) → List Agg → List Pair → List Row → List Row
aggregate_rows gs vs fs rs = map (group_row gs vs fs rs) (group_keys gs fs rs)

-- ── Window ──────────────────────────────────────────────────────────────────────────────────

unfoldable pub same_part : List Pair → (parts : List Expr) → Row → Row → Bool
same_part fs ps r s = same_row (eval_all fs r ps) (eval_all fs s ps)

-- "row numbers start at 1 within the partition, by the keys, ties in input order": r stands behind those of its partition that came earlier, but
-- where r comes strictly before them, and behind those that came later and come strictly before r
unfoldable pub row_number : List Pair → (parts : List Expr) → List Key → (pre : List Row) → Row → (post : List Row) → ℕ
row_number fs ps ks pre r post =
    let earlier = filter_b (λ s. same_part fs ps r s && not (before fs ks r s)) pre in
    let later = filter_b (λ s. same_part fs ps r s && before fs ks s r) post in
    suc (length earlier + length later)

-- "functions 1 to 4 cover the whole partition"
unfoldable pub win_value : List Pair → (all pre : List Row) → Row → (post : List Row) → Win → Val
win_value fs all pre r post (win c rows ps ks) = num (pos (row_number fs ps ks pre r post))
win_value fs all pre r post (win c (over f e) ps ks) = call_over fs (filter_b (same_part fs ps r) all) (over f e)

unfoldable pub win_row : List Win → List Pair → (all pre : List Row) → Row → (post : List Row) → Row
win_row ws fs all pre r post = r ++ map (win_value fs all pre r post) ws

-- "A Window keeps its input's row order"
unfoldable pub window_rows : List Win → List Pair → List Row → List Row
window_rows ws fs rs = around (win_row ws fs rs) [] rs

-- ── all kinds ───────────────────────────────────────────────────────────────────────────────

-- "A filter keeps rows whose value is yes. Sort is stable. Limit drops skip rows, then gives up to fetch."
unfoldable pub unary_rows : Unary → List Pair → List Row → List Row
unary_rows (projection is) fs rs = projection_rows is fs rs
unary_rows (filter e) fs rs = filter_b (λ r. yes? (eval fs r e)) rs
unary_rows (sort ks) fs rs = sort_by (before fs ks) rs
unary_rows (limit s n) fs rs = page s n rs
unary_rows (aggregate gs vs) fs rs = aggregate_rows (map item_expr gs) vs fs rs
unary_rows (window ws) fs rs = window_rows ws fs rs
unary_rows (subquery_alias q) fs rs = rs
unary_rows distinct fs rs = firsts same_row rs
