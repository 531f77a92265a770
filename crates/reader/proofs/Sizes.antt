-- How long what is stored of a node and of a plan is. Assumes nothing.
use Prim.Native.Nat.{ℕ, ◌+◌, ◌*◌}
use mathlib.Core.Path.{◌≡◌, refl}
use native.Mathlib.Omega.{arith}
use lib.ListN.{length, length-append}
use mathlib.Core.Option.{Option, none, some}
use Rattle.cpl.specs.Plan.{Expr, Leaf, scan, empty, Unary, projection, filter, sort, limit, aggregate, window, subquery_alias, distinct, Binary, union, join, Plan, leaf, unary, binary}
use Rattle.cpl.specs.Exprs.{plan_nodes}
use Rattle.tree.specs.Layout.{list_store, item_store, expr_store, key_store, agg_store, win_store, on_store, pair_store, column_store, all_nodes, columns_of, leaf_cells, leaf_rows, leaf_nodes, leaf_rows_in, leaf_node, unary_cells, unary_rows, unary_nodes, unary_rows_in, unary_node, cond_cells, cond_nodes, binary_cells, binary_rows, binary_nodes, binary_rows_in, binary_node, expr_nodes, plan_rows_in, plan_cells, plan_rows, plan_table}
use Rattle.reader_fields.proofs.Sets.{expr_long}
use Rattle.reader_parts.specs.declared.Kind.TheVariants as kind
use Rattle.reader_parts.proofs.Compose.{Sized, list-sized, all_one}
use Rattle.reader_parts.proofs.Parts.{sized_of}
use Rattle.reader_parts.proofs.Wins.{win-sized}

items : Sized (list_store item_store)
items = list-sized item_store (sized_of kind.Item)

keys : Sized (list_store key_store)
keys = list-sized key_store (sized_of kind.Key)

aggs : Sized (list_store agg_store)
aggs = list-sized agg_store (sized_of kind.Agg)

wins : Sized (list_store win_store)
wins = list-sized win_store win-sized

ons : Sized (list_store on_store)
ons = list-sized on_store (sized_of kind.On)

exprs : Sized (list_store expr_store)
exprs = list-sized expr_store (sized_of kind.Expr)

columns : Sized (list_store column_store)
columns = list-sized column_store (sized_of (kind.Column 0 0))

pairs : Sized (list_store pair_store)
pairs = list-sized pair_store (sized_of kind.Pair)

pub leaf-cells-long : (made : ℕ) (l : Leaf) → length (leaf_cells made l) ≡ 3 * leaf_nodes l
unfolding leaf_cells leaf_nodes
leaf-cells-long made (scan t q is es) = exprs.cells_long made es
leaf-cells-long made (empty b cs) = refl

pub leaf-rows-long : (made : ℕ) (l : Leaf) → length (leaf_rows made l) ≡ 4 * leaf_rows_in l
unfolding leaf_rows leaf_rows_in
leaf-rows-long made (scan t q is es) =
    simp length-append (omega (arith, columns.rows_long made (columns_of is), exprs.rows_long made es, all_one column_store (λ x. refl) (columns_of is), all_one expr_store (λ x. refl) es))
leaf-rows-long made (empty b cs) = omega (arith, pairs.rows_long made cs, all_one pair_store (λ x. refl) cs)

pub unary-cells-long : (made : ℕ) (h : Unary) → length (unary_cells made h) ≡ 3 * unary_nodes h
unfolding unary_cells unary_nodes
unary-cells-long made (projection is) = items.cells_long made is
unary-cells-long made (filter e) = expr_long made e
unary-cells-long made (sort ks) = keys.cells_long made ks
unary-cells-long made (limit s n) = refl
unary-cells-long made (aggregate gs vs) = simp length-append (omega (arith, items.cells_long made gs, aggs.cells_long (made + all_nodes item_store gs) vs))
unary-cells-long made (window ws) = wins.cells_long made ws
unary-cells-long made (subquery_alias q) = refl
unary-cells-long made distinct = refl

pub unary-rows-long : (made : ℕ) (h : Unary) → length (unary_rows made h) ≡ 4 * unary_rows_in h
unfolding unary_rows unary_rows_in
unary-rows-long made (projection is) = omega (arith, items.rows_long made is, all_one item_store (λ x. refl) is)
unary-rows-long made (filter e) = refl
unary-rows-long made (sort ks) = omega (arith, keys.rows_long made ks, all_one key_store (λ x. refl) ks)
unary-rows-long made (limit s n) = refl
unary-rows-long made (aggregate gs vs) =
    simp length-append (omega (arith, items.rows_long made gs, aggs.rows_long (made + all_nodes item_store gs) vs, all_one item_store (λ x. refl) gs, all_one agg_store (λ x. refl) vs))
unary-rows-long made (window ws) = wins.rows_long made ws
unary-rows-long made (subquery_alias q) = refl
unary-rows-long made distinct = refl

cond-long : (made : ℕ) (c : Option Expr) → length (cond_cells made c) ≡ 3 * cond_nodes c
unfolding cond_cells cond_nodes
cond-long made none = refl
cond-long made (some e) = expr_long made e

pub binary-cells-long : (made : ℕ) (h : Binary) → length (binary_cells made h) ≡ 3 * binary_nodes h
unfolding binary_cells binary_nodes
binary-cells-long made union = refl
binary-cells-long made (join t os c) = simp length-append (omega (arith, ons.cells_long made os, cond-long (made + all_nodes on_store os) c))

pub binary-rows-long : (made : ℕ) (h : Binary) → length (binary_rows made h) ≡ 4 * binary_rows_in h
unfolding binary_rows binary_rows_in
binary-rows-long made union = refl
binary-rows-long made (join t os c) = omega (arith, ons.rows_long made os, all_one on_store (λ x. refl) os)

leaf-node-long : (row : ℕ) (l : Leaf) → length (leaf_node row l) ≡ 7
unfolding leaf_node
leaf-node-long row (scan t q is es) = refl
leaf-node-long row (empty b cs) = refl

unary-node-long : (made row : ℕ) (h : Unary) → length (unary_node made row h) ≡ 7
unfolding unary_node
unary-node-long made row (projection is) = refl
unary-node-long made row (filter e) = refl
unary-node-long made row (sort ks) = refl
unary-node-long made row (limit s n) = refl
unary-node-long made row (aggregate gs vs) = refl
unary-node-long made row (window ws) = refl
unary-node-long made row (subquery_alias q) = refl
unary-node-long made row distinct = refl

binary-node-long : (made row right : ℕ) (h : Binary) → length (binary_node made row right h) ≡ 7
unfolding binary_node
binary-node-long made row right union = refl
binary-node-long made row right (join t os c) = refl

pub plan-cells-long : (made : ℕ) (p : Plan) → length (plan_cells made p) ≡ 3 * expr_nodes p
unfolding plan_cells expr_nodes
plan-cells-long made (leaf h) = leaf-cells-long made h
plan-cells-long made (unary h p) = simp length-append (omega (arith, unary-cells-long made h, plan-cells-long (made + unary_nodes h) p))
plan-cells-long made (binary h p₁ p₂) =
    let made₁ = made + binary_nodes h in
    simp length-append (omega (arith, binary-cells-long made h, plan-cells-long made₁ p₁, plan-cells-long (made₁ + expr_nodes p₁) p₂))

pub plan-rows-long : (made : ℕ) (p : Plan) → length (plan_rows made p) ≡ 4 * plan_rows_in p
unfolding plan_rows plan_rows_in
plan-rows-long made (leaf h) = leaf-rows-long made h
plan-rows-long made (unary h p) = simp length-append (omega (arith, unary-rows-long made h, plan-rows-long (made + unary_nodes h) p))
plan-rows-long made (binary h p₁ p₂) =
    let made₁ = made + binary_nodes h in
    simp length-append (omega (arith, binary-rows-long made h, plan-rows-long made₁ p₁, plan-rows-long (made₁ + expr_nodes p₁) p₂))

pub table-long : (at made row : ℕ) (p : Plan) → length (plan_table at made row p) ≡ 7 * plan_nodes p
unfolding plan_table plan_nodes
table-long at made row (leaf h) = leaf-node-long row h
table-long at made row (unary h p) = simp length-append (omega (arith, unary-node-long made row h, table-long (at + 1) (made + unary_nodes h) (row + unary_rows_in h) p))
table-long at made row (binary h p₁ p₂) =
    let made₁ = made + binary_nodes h in
    let row₁ = row + binary_rows_in h in
    simp length-append
    (omega (arith, binary-node-long made row (at + 1 + plan_nodes p₁) h, table-long (at + 1) made₁ row₁ p₁, table-long (at + 1 + plan_nodes p₁) (made₁ + expr_nodes p₁) (row₁ + plan_rows_in p₁) p₂))
