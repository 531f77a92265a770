-- `arena::Items::uses` meets its contract: the rows' numbers are gone through, and the numbers added are those of the items. Assumes nothing.
use mathlib.Core.Path.{◌≡◌, refl, sym, ap, ◌∙◌}
use Prim.Native.Nat.{◌+◌, ◌<◌}
use Rattle.std.proofs.Common.{rules}
use borrow.Author.Tests.{tests}
use Rattle.std.proofs.lemmas.Iterator.{YieldsList-from_map, YieldsList-from_range, serves_from_Range}
use Rattle.std.specs.List.{range_with_len, sum_by}
use Rattle.std.proofs.lemmas.Iterator.Consumers.{YieldsList-at, fits_by_from_yields_list, sum_by_from_yields_List}
use native.Mathlib.Omega.{arith}
use Rattle.cpl.specs.Exprs.{expr_tags}
use Rattle.cpl.specs.Plan.{item_expr, pair}
use Rattle.rules.specs.Merge.{occurs, occurs_in}
use Rattle.arena.specs.Cells.{expr_at}
use Rattle.arena.specs.Rows.{RowOk, item_at, items_at, root_at}
use Rattle.arena.proofs.Rows.{all_uses_le, item_expr_lem, row_tags, sum_rows, tags_le}
use Rattle.arena.proofs.Items.uses.Goals as goal

pub sum-requires-clause-can : goal.sum-requires-clause-can
sum-requires-clause-can c = (
  tt,
  serves_from_Range (λ x q r. search (rules, tests)) (λ x l u.
      let s = c.map.ensures.source in
      let o : RowOk c.args.self.now.rows.now c.args.self.now.cells.now x = c.requires.rows_ok.each x (search rules) (search rules) in
      let b : expr_tags (expr_at c.args.self.now.cells.now (root_at c.args.self.now.rows.now x)) < 4294967296 = omega (arith, c.requires.count_bound, ap expr_tags (item_expr_lem c.args.self.now.rows.now c.args.self.now.cells.now x o), tags_le (item_at c.args.self.now.rows.now c.args.self.now.cells.now x), row_tags c.args.self.now.rows.now c.args.self.now.cells.now c.args.self.now.first c.args.self.now.count x (search rules) (search rules)) in
      search rules),
)

pub sum-requires-clause-fits : goal.sum-requires-clause-fits
unfolding occurs_in
sum-requires-clause-fits c =
    fits_by_from_yields_list (λ i. occurs (pair c.args.q c.args.n) (expr_at c.args.self.now.cells.now (root_at c.args.self.now.rows.now i))) _ c.map.result _ (YieldsList-from_map _ (λ i. occurs (pair c.args.q c.args.n) (expr_at c.args.self.now.cells.now (root_at c.args.self.now.rows.now i))) (YieldsList-at c.map.ensures.source (YieldsList-from_range c.args.self.now.first (c.args.self.now.first + c.args.self.now.count) c.args.self.now.count refl (omega arith))) c.map.ensures.closure (λ x r q k. search (rules, tests))) (let e : sum_by (λ i. occurs (pair c.args.q c.args.n) (expr_at c.args.self.now.cells.now (root_at c.args.self.now.rows.now i))) (range_with_len c.args.self.now.first c.args.self.now.count) ≡ occurs_in (pair c.args.q c.args.n) (items_at c.args.self.now.rows.now c.args.self.now.cells.now c.args.self.now.first c.args.self.now.count) = sum_rows _ _ (λ j. occurs (pair c.args.q c.args.n) (item_expr j)) _ _ _ (λ i l u. ap (occurs (pair c.args.q c.args.n)) (sym (item_expr_lem _ _ i (c.requires.rows_ok.each i l u)))) in omega (arith, c.requires.count_bound, e, all_uses_le (pair c.args.q c.args.n) (items_at c.args.self.now.rows.now c.args.self.now.cells.now c.args.self.now.first c.args.self.now.count)))

pub returns : goal.returns
unfolding occurs_in
returns c =
    sum_by_from_yields_List (λ i. occurs (pair c.args.q c.args.n) (expr_at c.args.self.now.cells.now (root_at c.args.self.now.rows.now i))) _ c.map.result _ c.sum.ensures.ran (YieldsList-from_map _ (λ i. occurs (pair c.args.q c.args.n) (expr_at c.args.self.now.cells.now (root_at c.args.self.now.rows.now i))) (YieldsList-at c.map.ensures.source (YieldsList-from_range c.args.self.now.first (c.args.self.now.first + c.args.self.now.count) c.args.self.now.count refl (omega arith))) c.map.ensures.closure (λ x r q k. search (rules, tests))) ∙ sum_rows _ _ (λ j. occurs (pair c.args.q c.args.n) (item_expr j)) _ _ _ (λ i l u. ap (occurs (pair c.args.q c.args.n)) (sym (item_expr_lem _ _ i (c.requires.rows_ok.each i l u))))
