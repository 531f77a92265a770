-- `writer_parts::item_size` meets its contract. Assumes nothing.
use native.Mathlib.Omega.{arith}
use Rattle.writer_parts.proofs.Rows.{bare-length, bare-tags, named-length, named-tags}
use Rattle.arena.proofs.Rows.{read_wf}
use Rattle.writer_parts.proofs.item_size.Goals as goal

pub returns-then-row-eq0 : goal.returns-then-row-eq0
returns-then-row-eq0 c =
    omega (arith, bare-length c.args.cells.now c.row_at-row.ensures c.if-row-eq0.true, bare-tags c.args.cells.now c.row_at-row.ensures c.if-row-eq0.true)

pub expr_size-requires : goal.expr_size-requires
expr_size-requires c = record { wf = read_wf _ c.row_at-row.ensures c.requires.row_ok; countable = omega (arith, c.requires.countable, named-length c.args.cells.now c.row_at-row.ensures c.if-row-eq0.false, named-tags c.args.cells.now c.row_at-row.ensures c.if-row-eq0.false) }

pub add-requires : goal.add-requires
add-requires c =
    omega (arith, c.requires.countable, c.expr_size.ensures, named-length c.args.cells.now c.row_at-row.ensures c.if-row-eq0.false, named-tags c.args.cells.now c.row_at-row.ensures c.if-row-eq0.false)

pub returns : goal.returns
returns c =
    omega (arith, c.add.ensures, c.expr_size.ensures, named-length c.args.cells.now c.row_at-row.ensures c.if-row-eq0.false, named-tags c.args.cells.now c.row_at-row.ensures c.if-row-eq0.false)
