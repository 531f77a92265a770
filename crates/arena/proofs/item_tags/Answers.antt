-- `arena::item_tags` meets its contract. Assumes nothing.
use mathlib.Core.Path.{sym, ap}
use native.Mathlib.Omega.{arith}
use Rattle.cpl.specs.Exprs.{item_tags}
use Rattle.arena.proofs.Rows.{read_bare_lem, read_tags}
use Rattle.arena.proofs.item_tags.Goals as goal

pub returns-then-row-eq0 : goal.returns-then-row-eq0
unfolding item_tags
returns-then-row-eq0 c =
    sym (ap item_tags (read_bare_lem _ c.row_at-row.ensures c.if-row-eq0.true))

pub count_tags-requires-clause-i_bound : goal.count_tags-requires-clause-i_bound
count_tags-requires-clause-i_bound c =
    omega (arith, c.requires.i_bound, read_tags c.args.cells.now c.row_at-row.ensures c.if-row-eq0.false)

pub overflow_add-result : goal.overflow_add-result
overflow_add-result c =
    omega (arith, c.requires.i_bound, c.count_tags.ensures, read_tags c.args.cells.now c.row_at-row.ensures c.if-row-eq0.false)

pub returns : goal.returns
returns c =
    omega (arith, c.count_tags.ensures, read_tags c.args.cells.now c.row_at-row.ensures c.if-row-eq0.false)
