-- `walk_steps::get_at_indices` meets its contract: laws of `Ways`. Assumes nothing.
use Rattle.lookup.specs.Fields.{row_at}
use Rattle.projections.specs.Lists.{kept_items}
use Rattle.walk_steps.proofs.Ways.{columns_picked, items_picked}
use Rattle.walk_steps.proofs.get_at_indices.Goals as goal

pub returns-then-all_bare : goal.returns-then-all_bare
returns-then-all_bare c =
    let l = c.items_of-upper.result in
    let e = c.items_of-upper.ensures in
    let js = kept_items l.rows.now l.cells.now l.first l.count c.args.request in
    let fs = row_at c.args.fields.now c.args.start c.args.width in
    rw (← e.rows_are, ← e.cells_are, ← e.first_is, ← e.count_is) (columns_picked js fs c.new.ensures c.with_items-ask.ensures (c.all_bare.ensures.is _) c.if-all_bare.true)

pub returns : goal.returns
returns c =
    let l = c.items_of-upper.result in
    let e = c.items_of-upper.ensures in
    let js = kept_items l.rows.now l.cells.now l.first l.count c.args.request in
    let fs = row_at c.args.fields.now c.args.start c.args.width in
    rw (← e.rows_are, ← e.cells_are, ← e.first_is, ← e.count_is) (items_picked js fs c.new.ensures c.with_items-ask.ensures (c.all_bare.ensures.is _) c.if-all_bare.false c.in_ok-copied.ensures)
