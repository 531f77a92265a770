-- The rewriting rules of document 01, one for each kind of node. A rule says what is asked of the input, what the node becomes over the rewritten
-- input, and which of the node's fields are left.
use Rattle.std.specs.Prelude.{List, [], ◌∷◌, ◌++◌, map, Bool, true, false, cond, ◌&&◌, ℕ, ltb, length, take, drop}
use Rattle.std.proofs.Math.Option.{Option, some}
use Rattle.cpl.specs.Plan.{Pair, eq_p, Expr, Item, bare, named, Agg, Win, JoinType, j_inner, j_left, j_right, j_full, j_lsemi, j_lanti, j_rsemi, j_ranti, On, Leaf, scan, empty, Unary, projection, filter, sort, limit, aggregate, window, subquery_alias, distinct, Binary, union, join, Plan, leaf, unary, Catalogue, names_of, item_expr, key_expr, on_left, on_right}
use Rattle.cpl.specs.Tests.{concat_map}
use Rattle.cpl.specs.Exprs.{places, unary_exprs, cond_exprs}
use Rattle.cpl.specs.Fields.{columns_of, fields_of, join_fields}
use Rattle.rules.specs.Mask.{Mask, select, or_m, ones, zeros, count_m}
use Rattle.rules.specs.Keys.{places_of, kept_groups}
use Rattle.rules.specs.Request.{mask_of}

-- ── parts of the rules ──────────────────────────────────────────────────────────────────────

-- "Top-up: a child with more fields than were requested of it gets a Projection of the requested columns."
unfoldable pub top_up : Catalogue → (fields : List Pair) → Mask → Plan → Plan
top_up C fs R p' = cond (ltb (count_m R) (length (fields_of C p'))) (unary (projection (map bare (select R fs))) p') p'

-- the fields that the references of the expressions find, each the first that fits; and a request with them
unfoldable pub used : List Expr → List Pair → Mask
used es fs = mask_of (length fs) (concat_map (places fs) es)

unfoldable pub plus : List Expr → List Pair → Mask → Mask
plus es fs R = or_m R (used es fs)

-- "all bare columns equal in number and, place by place, in pairs to the child's fields"
unfoldable pub same_columns : List Item → List Pair → Bool
same_columns [] [] = true
same_columns [] (f ∷ fs) = false
same_columns (bare c ∷ is) [] = false
same_columns (named c e ∷ is) [] = false
same_columns (bare c ∷ is) (f ∷ fs) = eq_p c f && same_columns is fs
same_columns (named c e ∷ is) (f ∷ fs) = false

-- the kept items over the rewritten child: "it is dropped" where it changes nothing
unfoldable pub over_child : Catalogue → List Item → Plan → Plan
over_child C is p' = cond (same_columns is (fields_of C p')) p' (unary (projection is) p')

-- ── nodes with no input ─────────────────────────────────────────────────────────────────────

-- "Scan. New projection: the old at the request, or the request." "Filters stay". "Empty: unchanged."
unfoldable pub leaf_rule : Catalogue → Leaf → Mask → Leaf
leaf_rule C (scan t q is es) R = scan t q (some (select R (columns_of (names_of C t) is))) es
leaf_rule C (empty b cs) R = empty b cs

unfoldable pub leaf_kept : Leaf → Mask → Mask
leaf_kept (scan t q is es) R = R
leaf_kept (empty b cs) R = ones cs

-- ── nodes with one input ────────────────────────────────────────────────────────────────────

-- what is to be done: nothing beneath is walked; or the input is asked for a request and, where `topped`, topped up. `beneficial`: the request
-- comes from a Filter, Sort, Union, SubqueryAlias or Join with only Limits and Windows between. `node`: the node over the rewritten input.
-- `left`: of the input's fields that are left, the node's that are.
pub data Job : Type 0 where
  done : (result : Plan) (kept : Mask) → Job
  ask : (beneficial : Bool) (request : Mask) (topped : Bool) (node : Plan → Plan) (left : Mask → Mask) → Job

-- "Projection: keep the items requested; ask the child for the columns they use."
unfoldable pub projection_job : Catalogue → List Item → (fields : List Pair) → Mask → Job
projection_job C is fs R = let js = select R is in ask false (used (map item_expr js) fs) false (over_child C js) (λ K. R)

-- "None of either left: one-row Empty with no fields." `gs` and `vs` are the groups and aggregates that are kept.
unfoldable pub aggregate_job : (groups : List Item) (aggregates : List Agg) (fields : List Pair) → Mask → Job
aggregate_job [] [] fs K = done (leaf (empty true [])) K
aggregate_job [] (v ∷ vs) fs K = ask false (used (unary_exprs (aggregate [] (v ∷ vs))) fs) true (unary (aggregate [] (v ∷ vs))) (λ L. K)
aggregate_job (g ∷ gs) vs fs K = ask false (used (unary_exprs (aggregate (g ∷ gs) vs)) fs) true (unary (aggregate (g ∷ gs) vs)) (λ L. K)

-- "None kept: the child alone, no top-up." `R` is the pass-through part of the request, `S` the windows' part.
unfoldable pub window_job : (kept : List Win) (fields : List Pair) (beneficial : Bool) (R S : Mask) → Job
window_job [] fs b R S = ask b R false (λ p'. p') (λ K. K ++ S)
window_job (w ∷ ws) fs b R S = ask b (plus (unary_exprs (window (w ∷ ws))) fs R) true (unary (window (w ∷ ws))) (λ K. K ++ S)

-- `key`: the input's key, if it has one
unfoldable pub unary_job : Catalogue → Unary → (key : List ℕ) (fields : List Pair) (beneficial : Bool) → Mask → Job
unary_job C (projection is) key fs b R = projection_job C is fs R
-- "Filter, Sort, Union, SubqueryAlias: the request and the node's columns, top-up."
unary_job C (filter e) key fs b R = ask true (plus (e ∷ []) fs R) true (unary (filter e)) (λ K. K)
unary_job C (sort ks) key fs b R = ask true (plus (map key_expr ks) fs R) true (unary (sort ks)) (λ K. K)
unary_job C (subquery_alias q) key fs b R = ask true R true (unary (subquery_alias q)) (λ K. K)
-- "Limit: the request; top-up only if that request comes from one of those four or a Join with only Limits and Windows between."
unary_job C (limit s n) key fs b R = ask b R b (unary (limit s n)) (λ K. K)
-- "Aggregate. All groups stay; aggregates are taken at the request. Top-up." With a key: those that `kept_groups` says.
unary_job C (aggregate gs vs) key fs b R =
    let G = kept_groups key (places_of fs gs) (take (length gs) R) in
    let A = drop (length gs) R in
    aggregate_job (select G gs) (select A vs) fs (G ++ A)
-- "Window. Ask for the pass-through part and the columns of kept window expressions; top-up."
unary_job C (window ws) key fs b R = let S = drop (length fs) R in window_job (select S ws) fs b (take (length fs) R) S
-- "Distinct: all, no top-up."
unary_job C distinct key fs b R = ask false (ones fs) false (unary distinct) (λ K. K)

-- ── nodes with two inputs: "Split at the left's count; semi and anti give the request to their own side; add each side's columns used. Top-up." ──

unfoldable pub left_part : JoinType → List Pair → Mask → Mask
left_part j_inner fl R = take (length fl) R
left_part j_left fl R = take (length fl) R
left_part j_right fl R = take (length fl) R
left_part j_full fl R = take (length fl) R
left_part j_lsemi fl R = R
left_part j_lanti fl R = R
left_part j_rsemi fl R = zeros fl
left_part j_ranti fl R = zeros fl

unfoldable pub right_part : JoinType → List Pair → List Pair → Mask → Mask
right_part j_inner fl fr R = drop (length fl) R
right_part j_left fl fr R = drop (length fl) R
right_part j_right fl fr R = drop (length fl) R
right_part j_full fl fr R = drop (length fl) R
right_part j_lsemi fl fr R = zeros fr
right_part j_lanti fl fr R = zeros fr
right_part j_rsemi fl fr R = R
right_part j_ranti fl fr R = R

-- "For requests a join's references are looked up on each side separately, the first that fits": all of them on either side
unfoldable pub join_exprs : List On → Option Expr → List Expr
join_exprs os c = map on_left os ++ (map on_right os ++ cond_exprs c)

-- what is asked of the first input, and of the second
unfoldable pub left_ask : Binary → List Pair → List Pair → Mask → Mask
left_ask union fl fr R = R
left_ask (join t os c) fl fr R = plus (join_exprs os c) fl (left_part t fl R)

unfoldable pub right_ask : Binary → List Pair → List Pair → Mask → Mask
right_ask union fl fr R = R
right_ask (join t os c) fl fr R = plus (join_exprs os c) fr (right_part t fl fr R)

unfoldable pub binary_kept : Binary → List Pair → List Pair → Mask → Mask
binary_kept union fl fr R = R
binary_kept (join t os c) fl fr R = join_fields t (left_ask (join t os c) fl fr R) (right_ask (join t os c) fl fr R)
