-- How many numbers a plan takes in each array. Assumes nothing.
use mathlib.Core.Path.{◌≡◌, refl}
use mathlib.Core.Option.{Option, none, some}
use Prim.Native.Nat.{ℕ, ◌+◌, ◌*◌}
use native.Mathlib.Omega.{arith}
use lib.ListN.{length, length-append}
use Rattle.cpl.specs.Exprs.{plan_nodes}
use Rattle.cpl.specs.Plan.{Binary, Expr, Leaf, Plan, Unary, aggregate, binary, distinct, empty, filter, join, leaf, limit, projection, scan, sort, subquery_alias, unary, union, window}
use Rattle.tree.specs.Layout.{agg_store, all_nodes, binary_cells, binary_node, binary_nodes, binary_rows, binary_rows_in, columns_of, cond_cells, cond_nodes, expr_nodes, expr_store, item_store, key_store, leaf_cells, leaf_node, leaf_nodes, leaf_rows, leaf_rows_in, on_store, pair_store, plan_cells, plan_rows, plan_rows_in, plan_table, unary_cells, unary_node, unary_nodes, unary_rows, unary_rows_in, win_store}
use Rattle.tree.proofs.Exprs.{cells_long}
use Rattle.tree.proofs.Lists.{all-cells-long, all-rows-long, one_each}
use Rattle.tree.proofs.Stores.{agg-sized, columns-long, expr_sized, exprs_long, item-sized, key-sized, on-sized, pair-sized}
use Rattle.tree.proofs.Windows.{win-sized}

pub unary-cells : (made : ℕ) (h : Unary) → length (unary_cells made h) ≡ unary_nodes h * 3
unfolding unary_cells unary_nodes
unary-cells made (projection is) = all-cells-long item_store item-sized made is
unary-cells made (filter e) = cells_long made e
unary-cells made (sort ks) = all-cells-long key_store key-sized made ks
unary-cells made (limit s n) = refl
unary-cells made (aggregate gs vs) =
    simp length-append (omega (arith, all-cells-long item_store item-sized made gs, all-cells-long agg_store agg-sized (made + all_nodes item_store gs) vs))
unary-cells made (window ws) = all-cells-long win_store win-sized made ws
unary-cells made (subquery_alias q) = refl
unary-cells made distinct = refl

pub unary-rows : (made : ℕ) (h : Unary) → length (unary_rows made h) ≡ unary_rows_in h * 4
unfolding unary_rows unary_rows_in
unary-rows made (projection is) = omega (arith, all-rows-long item_store item-sized made is, one_each item_store item-sized (λ x. refl) is)
unary-rows made (filter e) = refl
unary-rows made (sort ks) = omega (arith, all-rows-long key_store key-sized made ks, one_each key_store key-sized (λ x. refl) ks)
unary-rows made (limit s n) = refl
unary-rows made (aggregate gs vs) =
    simp length-append
    (omega (arith, all-rows-long item_store item-sized made gs, one_each item_store item-sized (λ x. refl) gs, all-rows-long agg_store agg-sized (made + all_nodes item_store gs) vs, one_each agg_store agg-sized (λ x. refl) vs))
unary-rows made (window ws) = all-rows-long win_store win-sized made ws
unary-rows made (subquery_alias q) = refl
unary-rows made distinct = refl

pub unary-node : (made row : ℕ) (h : Unary) → length (unary_node made row h) ≡ 7
unfolding unary_node
unary-node made row (projection is) = refl
unary-node made row (filter e) = refl
unary-node made row (sort ks) = refl
unary-node made row (limit s n) = refl
unary-node made row (aggregate gs vs) = refl
unary-node made row (window ws) = refl
unary-node made row (subquery_alias q) = refl
unary-node made row distinct = refl

cond-long : (made : ℕ) (c : Option Expr) → length (cond_cells made c) ≡ cond_nodes c * 3
unfolding cond_cells cond_nodes
cond-long made none = refl
cond-long made (some e) = cells_long made e

pub binary-cells : (made : ℕ) (h : Binary) → length (binary_cells made h) ≡ binary_nodes h * 3
unfolding binary_cells binary_nodes
binary-cells made union = refl
binary-cells made (join t os c) = simp length-append (omega (arith, all-cells-long on_store on-sized made os, cond-long (made + all_nodes on_store os) c))

pub binary-rows : (made : ℕ) (h : Binary) → length (binary_rows made h) ≡ binary_rows_in h * 4
unfolding binary_rows binary_rows_in
binary-rows made union = refl
binary-rows made (join t os c) = omega (arith, all-rows-long on_store on-sized made os, one_each on_store on-sized (λ x. refl) os)

pub binary-node : (made row right : ℕ) (h : Binary) → length (binary_node made row right h) ≡ 7
unfolding binary_node
binary-node made row right union = refl
binary-node made row right (join t os c) = refl

leaf-cells : (made : ℕ) (h : Leaf) → length (leaf_cells made h) ≡ leaf_nodes h * 3
unfolding leaf_cells leaf_nodes
leaf-cells made (scan t q is es) = all-cells-long expr_store expr_sized made es
leaf-cells made (empty b cs) = refl

leaf-rows : (made : ℕ) (h : Leaf) → length (leaf_rows made h) ≡ leaf_rows_in h * 4
unfolding leaf_rows leaf_rows_in
leaf-rows made (scan t q is es) = simp length-append (omega (arith, columns-long made (columns_of is), exprs_long made es))
leaf-rows made (empty b cs) = omega (arith, all-rows-long pair_store pair-sized made cs, one_each pair_store pair-sized (λ x. refl) cs)

leaf-node : (row : ℕ) (h : Leaf) → length (leaf_node row h) ≡ 7
unfolding leaf_node
leaf-node row (scan t q is es) = refl
leaf-node row (empty b cs) = refl

pub plan-cells : (made : ℕ) (p : Plan) → length (plan_cells made p) ≡ expr_nodes p * 3
unfolding plan_cells expr_nodes
plan-cells made (leaf h) = leaf-cells made h
plan-cells made (unary h p) = simp length-append (omega (arith, unary-cells made h, plan-cells (made + unary_nodes h) p))
plan-cells made (binary h p₁ p₂) =
    simp length-append (omega (arith, binary-cells made h, plan-cells (made + binary_nodes h) p₁, plan-cells (made + binary_nodes h + expr_nodes p₁) p₂))

pub plan-rows : (made : ℕ) (p : Plan) → length (plan_rows made p) ≡ plan_rows_in p * 4
unfolding plan_rows plan_rows_in
plan-rows made (leaf h) = leaf-rows made h
plan-rows made (unary h p) = simp length-append (omega (arith, unary-rows made h, plan-rows (made + unary_nodes h) p))
plan-rows made (binary h p₁ p₂) =
    simp length-append (omega (arith, binary-rows made h, plan-rows (made + binary_nodes h) p₁, plan-rows (made + binary_nodes h + expr_nodes p₁) p₂))

pub plan-table : (at made row : ℕ) (p : Plan) → length (plan_table at made row p) ≡ plan_nodes p * 7
unfolding plan_table plan_nodes
plan-table at made row (leaf h) = leaf-node row h
plan-table at made row (unary h p) =
    simp length-append (omega (arith, unary-node made row h, plan-table (at + 1) (made + unary_nodes h) (row + unary_rows_in h) p))
plan-table at made row (binary h p₁ p₂) =
    let made₁ = made + binary_nodes h in
    let row₁ = row + binary_rows_in h in
    let right = at + 1 + plan_nodes p₁ in
    simp length-append
    (omega (arith, binary-node made row right h, plan-table (at + 1) made₁ row₁ p₁, plan-table right (made₁ + expr_nodes p₁) (row₁ + plan_rows_in p₁) p₂))
