-- What a node with two inputs makes of their fields and rows.
use Rattle.std.specs.Prelude.{List, [], ◌∷◌, ◌++◌, map, Bool, true, not, ◌&&◌}
use Rattle.std.proofs.Math.Option.{Option, none, some}
use Rattle.cpl.specs.Tests.{any_b, concat_map}
use Rattle.cpl.specs.Plan.{Pair, o_eq, Expr, JoinType, j_inner, j_left, j_right, j_full, j_lsemi, j_lanti, j_rsemi, j_ranti, On, on, Binary, union, join}
use Rattle.meaning.specs.Value.{missing, Row, op2, yes?}
use Rattle.meaning.specs.Eval.{eval}
use Rattle.meaning.specs.Lists.{filter_b, or_else}

-- ── "a match needs every pair present and equal and the filter yes" ─────────────────────────

unfoldable pub on_match : List On → List Pair → List Pair → Row → Row → Bool
on_match [] fl fr l r = true
on_match (on a b ∷ os) fl fr l r = yes? (op2 o_eq (eval fl l a) (eval fr r b)) && on_match os fl fr l r

unfoldable pub cond_match : Option Expr → List Pair → Row → Bool
cond_match none fs r = true
cond_match (some e) fs r = yes? (eval fs r e)

unfoldable pub matches : List On → Option Expr → List Pair → List Pair → Row → Row → Bool
matches os c fl fr l r = on_match os fl fr l r && cond_match c (fl ++ fr) (l ++ r)

-- ── rows ────────────────────────────────────────────────────────────────────────────────────

-- "absent sides are missing"
unfoldable pub missings : List Pair → Row
missings fs = map (λ f. missing) fs

-- "Rows of a join go left-major": each left row with its matches, or with the absent side
unfoldable pub left_major : (Row → Row → Bool) → (absent : Row) → (ls rs : List Row) → List Row
left_major m absent ls rs = concat_map (λ l. or_else (map (λ r. l ++ r) (filter_b (m l) rs)) (l ++ absent)) ls

-- "(Right types right-major)"
unfoldable pub right_major : (Row → Row → Bool) → (absent : Row) → (ls rs : List Row) → List Row
right_major m absent ls rs = concat_map (λ r. or_else (map (λ l. l ++ r) (filter_b (λ l. m l r) ls)) (absent ++ r)) rs

-- "Full appends unmatched right rows last"; "semi keeps its side's rows with a match, anti those without"
unfoldable pub join_rows : JoinType → (Row → Row → Bool) → (absent-left absent-right : Row) → (ls rs : List Row) → List Row
join_rows j_inner m nl nr ls rs = concat_map (λ l. map (λ r. l ++ r) (filter_b (m l) rs)) ls
join_rows j_left m nl nr ls rs = left_major m nr ls rs
join_rows j_right m nl nr ls rs = right_major m nl ls rs
join_rows j_full m nl nr ls rs = left_major m nr ls rs ++ map (λ r. nl ++ r) (filter_b (λ r. not (any_b (λ l. m l r) ls)) rs)
join_rows j_lsemi m nl nr ls rs = filter_b (λ l. any_b (m l) rs) ls
join_rows j_lanti m nl nr ls rs = filter_b (λ l. not (any_b (m l) rs)) ls
join_rows j_rsemi m nl nr ls rs = filter_b (λ r. any_b (λ l. m l r) ls) rs
join_rows j_ranti m nl nr ls rs = filter_b (λ r. not (any_b (λ l. m l r) ls)) rs

-- "Union gives the first input's rows, then the second's."
unfoldable pub binary_rows : Binary → List Pair → List Pair → List Row → List Row → List Row
binary_rows union fl fr ls rs = ls ++ rs
binary_rows (join t os c) fl fr ls rs = join_rows t (matches os c fl fr) (missings fl) (missings fr) ls rs
