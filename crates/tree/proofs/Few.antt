-- How long the arrays have to be for any plan that can be written: its cells are at most its tags, its rows at most two a node for each item that
-- its version lets a list have, and one a tag.
-- Assumes nothing.
use mathlib.Core.Path.{◌≡◌, ◌∙◌}
use mathlib.Core.List.{List, [], ◌∷◌}
use mathlib.Core.Option.{Option, none, some}
use Prim.Native.Nat.{ℕ, suc, ◌+◌, ◌*◌, ◌≤◌}
use native.Mathlib.Nat.{add_comm, mul-add, mul-le-mul_left, mul-one, mul-suc}
use native.Mathlib.Omega.{arith}
use lib.ListN.{length}
use Rattle.cpl.specs.Exprs.{agg_exprs, agg_tags, binary_tags, call_exprs, cond_exprs, expr_tags, item_tags, key_tags, leaf_tags, on_tags, plan_nodes, plan_tags, unary_tags, win_tags}
use Rattle.cpl.specs.Limits.{IsVersion, Version, max_nodes, max_tags}
use Rattle.cpl.specs.Plan.{Agg, Binary, Call, Catalogue, Expr, Key, Leaf, On, Plan, Unary, Win, agg, aggregate, binary, distinct, empty, filter, join, key, key_expr, leaf, limit, on, over, projection, rows, scan, sort, subquery_alias, unary, union, win, window}
use Rattle.cpl.specs.Tests.{sum_of}
use Rattle.cpl.specs.Writable.{FitColumns, FitLeaf, FitList, FitPlan, FitUnary}
use Rattle.versions.specs.Versions.{node_rows, rows_room}
use Rattle.versions.proofs.Small.{Small, small}
use Rattle.arena.proofs.Rows.{tags_le}
use Rattle.tree.specs.Layout.{Store, agg_nodes, agg_store, all_nodes, all_rows_in, binary_nodes, binary_rows_in, call_nodes, columns_of, cond_nodes, expr_nodes, expr_store, item_store, key_nodes, key_store, leaf_nodes, leaf_rows_in, on_nodes, on_store, plan_rows_in, unary_nodes, unary_rows_in, win_nodes, win_rows_in, win_store}
use Rattle.tree.proofs.Exprs.{tags-pos}

-- ── cells ───────────────────────────────────────────────────────────────────────────────────

sum_le : {A : Type 0} (s : Store A) (tags : A → ℕ) → ((x : A) → s.nodes_in x ≤ tags x) → (xs : List A) → all_nodes s xs ≤ sum_of tags xs
unfolding all_nodes sum_of
sum_le s tags h [] = omega arith
sum_le s tags h (x ∷ xs) = omega (arith, h x, sum_le s tags h xs)

key_le : (k : Key) → key_nodes k ≤ key_tags k
unfolding key_nodes key_tags key_expr
key_le (key d m e) = omega arith

call_le : (g : Call) → call_nodes g ≤ sum_of expr_tags (call_exprs g)
unfolding call_nodes call_exprs sum_of
call_le rows = omega arith
call_le (over f e) = omega arith

agg_le : (v : Agg) → agg_nodes v ≤ agg_tags v
unfolding agg_nodes agg_tags agg_exprs
agg_le (agg c g) = call_le g

win_le : (w : Win) → win_nodes w ≤ win_tags w
unfolding win_nodes win_tags
win_le (win c g ps ks) = omega (arith, sum_le expr_store expr_tags (λ e. omega arith) ps, sum_le key_store key_tags key_le ks, call_le g)

on_le : (o : On) → on_nodes o ≤ on_tags o
unfolding on_nodes on_tags
on_le (on a b) = omega arith

cond_le : (c : Option Expr) → cond_nodes c ≤ sum_of expr_tags (cond_exprs c)
unfolding cond_nodes cond_exprs sum_of
cond_le none = omega arith
cond_le (some e) = omega arith

unary_le : (h : Unary) → unary_nodes h ≤ unary_tags h
unfolding unary_nodes unary_tags
unary_le (projection is) = sum_le item_store item_tags tags_le is
unary_le (filter e) = omega arith
unary_le (sort ks) = sum_le key_store key_tags key_le ks
unary_le (limit s n) = omega arith
unary_le (aggregate gs vs) = omega (arith, sum_le item_store item_tags tags_le gs, sum_le agg_store agg_tags agg_le vs)
unary_le (window ws) = sum_le win_store win_tags win_le ws
unary_le (subquery_alias q) = omega arith
unary_le distinct = omega arith

binary_le : (h : Binary) → binary_nodes h ≤ binary_tags h
unfolding binary_nodes binary_tags
binary_le union = omega arith
binary_le (join t os c) = omega (arith, sum_le on_store on_tags on_le os, cond_le c)

leaf_le : (h : Leaf) → leaf_nodes h ≤ leaf_tags h
unfolding leaf_nodes leaf_tags
leaf_le (scan t q is es) = sum_le expr_store expr_tags (λ e. omega arith) es
leaf_le (empty b cs) = omega arith

pub cells-few : (p : Plan) → expr_nodes p ≤ plan_tags p
unfolding expr_nodes plan_tags
cells-few (leaf h) = leaf_le h
cells-few (unary h p) = omega (arith, unary_le h, cells-few p)
cells-few (binary h p₁ p₂) = omega (arith, binary_le h, cells-few p₁, cells-few p₂)

-- ── rows ────────────────────────────────────────────────────────────────────────────────────

length_le : {A : Type 0} (tags : A → ℕ) → ((x : A) → 1 ≤ tags x) → (xs : List A) → length xs ≤ sum_of tags xs
unfolding sum_of
length_le tags h [] = omega arith
length_le tags h (x ∷ xs) = omega (arith, h x, length_le tags h xs)

key-tag : (k : Key) → 1 ≤ key_tags k
unfolding key_tags
key-tag k = tags-pos (key_expr k)

win-rows : (w : Win) → win_rows_in w ≤ 2 + win_tags w
unfolding win_rows_in win_tags
win-rows (win c g ps ks) = omega (arith, length_le expr_tags tags-pos ps, length_le key_tags key-tag ks)

wins_rows : (ws : List Win) → all_rows_in win_store ws ≤ 2 * length ws + sum_of win_tags ws
unfolding all_rows_in sum_of
wins_rows [] = omega arith
wins_rows (w ∷ ws) = omega (arith, win-rows w, wins_rows ws)

unary-rows : (v : Version) (h : Unary) → FitUnary v h → unary_rows_in h ≤ node_rows v + unary_tags h
unfolding unary_rows_in unary_tags FitUnary FitList
unary-rows v (projection is) f = omega (arith, f.0)
unary-rows v (filter e) f = omega arith
unary-rows v (sort ks) f = omega (arith, length_le key_tags key-tag ks)
unary-rows v (limit s n) f = omega arith
unary-rows v (aggregate gs vs) f = omega (arith, f.1.0, f.2.0)
unary-rows v (window ws) f = omega (arith, f.1.0, wins_rows ws)
unary-rows v (subquery_alias q) f = omega arith
unary-rows v distinct f = omega arith

on-tag : (o : On) → 1 ≤ on_tags o
unfolding on_tags
on-tag (on a b) = omega (arith, tags-pos a)

binary-rows : (h : Binary) → binary_rows_in h ≤ binary_tags h
unfolding binary_rows_in binary_tags
binary-rows union = omega arith
binary-rows (join t os c) = omega (arith, length_le on_tags on-tag os)

columns-few : (v : Version) (n : ℕ) (is : Option (List ℕ)) → FitColumns v n is → length (columns_of is) ≤ v.max_columns
unfolding FitColumns FitList columns_of
columns-few v n none f = omega arith
columns-few v n (some xs) f = f.0

leaf-rows : (C : Catalogue) (h : Leaf) → Small C.version → FitLeaf C h → leaf_rows_in h ≤ node_rows C.version + leaf_tags h
unfolding leaf_rows_in leaf_tags FitLeaf FitList
leaf-rows C (scan t q is es) s f = omega (arith, columns-few _ _ is f.2, length_le expr_tags tags-pos es, s.columns-fields, s.fields-items)
leaf-rows C (empty b cs) s f = omega (arith, f.0)

-- one node more
more : (m n : ℕ) → m * suc n ≡ m + m * n
more m n = mul-suc m n ∙ add_comm (m * n) m

pub rows_few : (C : Catalogue) (p : Plan) → IsVersion C.version → FitPlan C p → plan_rows_in p ≤ node_rows C.version * plan_nodes p + plan_tags p
unfolding plan_rows_in plan_nodes plan_tags FitPlan
rows_few C (leaf h) s f = omega (arith, leaf-rows C h (small s) f, mul-one (node_rows C.version))
rows_few C (unary h p) s f = omega (arith, unary-rows _ h f.0, rows_few C p s f.1, more (node_rows C.version) (plan_nodes p))
rows_few C (binary h p₁ p₂) s f =
    let m = node_rows C.version in
    omega (arith, binary-rows h, rows_few C p₁ s f.1, rows_few C p₂ s f.2, more m (plan_nodes p₁ + plan_nodes p₂), mul-add m (plan_nodes p₁) (plan_nodes p₂))

-- the room that any plan that can be written has in arrays for 4,096 nodes of expressions, 256 nodes and the rows that its version may take
pub record Room (v : Version) (p : Plan) : Type 0 where
  pub cells : expr_nodes p * 3 ≤ 12288
  pub rows : plan_rows_in p * 4 ≤ rows_room v
  pub nodes : plan_nodes p * 7 ≤ 1792

pub room : (C : Catalogue) (p : Plan) → IsVersion C.version → FitPlan C p → plan_nodes p ≤ max_nodes → plan_tags p ≤ max_tags → Room C.version p
room C p s f n t = record {
  cells = omega (arith, cells-few p);
  rows = omega (arith, rows_few C p s f, mul-le-mul_left (node_rows C.version) n);
  nodes = omega arith;
}
