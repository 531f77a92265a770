-- `writer_parts::on_size` meets its contract. Assumes nothing.
use native.Mathlib.Omega.{arith}
use Rattle.writer_parts.proofs.Rows.{on-length, on-tags}
use Rattle.writer_parts.proofs.on_size.Goals as goal

pub expr_size-requires : goal.expr_size-requires
expr_size-requires c = record { wf = c.on_at-row.ensures.left_node _ c.requires.ok; countable = omega (arith, c.requires.countable, on-length c.args.cells.now c.on_at-row.ensures, on-tags c.args.cells.now c.on_at-row.ensures) }

pub expr_size-requires-2 : goal.expr_size-requires-2
expr_size-requires-2 c = record { wf = c.on_at-row.ensures.right_node _ c.requires.ok; countable = omega (arith, c.requires.countable, on-length c.args.cells.now c.on_at-row.ensures, on-tags c.args.cells.now c.on_at-row.ensures) }

pub add-requires : goal.add-requires
add-requires c =
    omega (arith, c.requires.countable, c.expr_size.ensures, c.expr_size-2.ensures, on-length c.args.cells.now c.on_at-row.ensures, on-tags c.args.cells.now c.on_at-row.ensures)

pub returns : goal.returns
returns c =
    omega (arith, c.requires.countable, c.add.ensures, c.expr_size.ensures, c.expr_size-2.ensures, on-length c.args.cells.now c.on_at-row.ensures, on-tags c.args.cells.now c.on_at-row.ensures)
