-- `arena::Items::tags` meets its contract: the rows' numbers are gone through, and the numbers added are those of the items. Assumes nothing.
use mathlib.Core.Path.{◌≡◌, refl, ◌∙◌}
use Prim.Native.Nat.{◌+◌, ◌<◌}
use Rattle.std.proofs.Common.{rules}
use borrow.Author.Tests.{tests}
use Rattle.std.proofs.lemmas.Iterator.{YieldsList-from_map, YieldsList-from_range, serves_from_Range}
use Rattle.std.specs.List.{range_with_len, sum_by}
use Rattle.cpl.specs.Tests.{sum_of}
use Rattle.std.proofs.lemmas.Iterator.Consumers.{YieldsList-at, fits_by_from_yields_list, sum_by_from_yields_List}
use native.Mathlib.Omega.{arith}
use Rattle.cpl.specs.Exprs.{item_tags}
use Rattle.arena.specs.Rows.{RowOk, item_at, items_at}
use Rattle.arena.proofs.Rows.{row_tags, sum_rows}
use Rattle.arena.proofs.Items.tags.Goals as goal

pub sum-requires-clause-can : goal.sum-requires-clause-can
sum-requires-clause-can c = (
  tt,
  serves_from_Range (λ x q r. search (rules, tests)) (λ x l u.
      let s = c.map.ensures.source in
      let o : RowOk c.args.self.now.rows.now c.args.self.now.cells.now x = c.requires.rows_ok.each x (search rules) (search rules) in
      let b : item_tags (item_at c.args.self.now.rows.now c.args.self.now.cells.now x) < 4294967296 = omega (arith, c.requires.count_bound, row_tags c.args.self.now.rows.now c.args.self.now.cells.now c.args.self.now.first c.args.self.now.count x (search rules) (search rules)) in
      search rules),
)

pub sum-requires-clause-fits : goal.sum-requires-clause-fits
sum-requires-clause-fits c =
    fits_by_from_yields_list (λ i. item_tags (item_at c.args.self.now.rows.now c.args.self.now.cells.now i)) _ c.map.result _ (YieldsList-from_map _ (λ i. item_tags (item_at c.args.self.now.rows.now c.args.self.now.cells.now i)) (YieldsList-at c.map.ensures.source (YieldsList-from_range c.args.self.now.first (c.args.self.now.first + c.args.self.now.count) c.args.self.now.count refl (omega arith))) c.map.ensures.closure (λ x r q k. search (rules, tests))) (let e : sum_by (λ i. item_tags (item_at c.args.self.now.rows.now c.args.self.now.cells.now i)) (range_with_len c.args.self.now.first c.args.self.now.count) ≡ sum_of item_tags (items_at c.args.self.now.rows.now c.args.self.now.cells.now c.args.self.now.first c.args.self.now.count) = sum_rows _ _ item_tags _ _ _ (λ i l u. refl) in omega (arith, e))

pub returns : goal.returns
returns c =
    sum_by_from_yields_List (λ i. item_tags (item_at c.args.self.now.rows.now c.args.self.now.cells.now i)) _ c.map.result _ c.sum.ensures.ran (YieldsList-from_map _ (λ i. item_tags (item_at c.args.self.now.rows.now c.args.self.now.cells.now i)) (YieldsList-at c.map.ensures.source (YieldsList-from_range c.args.self.now.first (c.args.self.now.first + c.args.self.now.count) c.args.self.now.count refl (omega arith))) c.map.ensures.closure (λ x r q k. search (rules, tests))) ∙ sum_rows _ _ item_tags _ _ _ (λ i l u. refl)
