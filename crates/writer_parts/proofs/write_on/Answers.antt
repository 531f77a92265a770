-- `writer_parts::write_on` meets its contract. Assumes nothing.
use native.Mathlib.Omega.{arith}
use Rattle.writer_parts.proofs.Rows.{on-length, on-wrote}
use Rattle.writer_parts.proofs.write_on.Goals as goal

pub write_expr-a-requires : goal.write_expr-a-requires
write_expr-a-requires c = record { wf = c.on_at-row.ensures.left_node _ c.requires.ok; i_in_bounds = omega (arith, c.requires.i_in_bounds, on-length c.args.cells.now c.on_at-row.ensures) }

pub slice_bounds-write_expr-count : goal.slice_bounds-write_expr-count
slice_bounds-write_expr-count c =
    omega (arith, c.requires.i_in_bounds, on-length c.args.cells.now c.on_at-row.ensures, c.write_expr-a.ensures.long)

pub slice_bounds-write_expr-start : goal.slice_bounds-write_expr-start
slice_bounds-write_expr-start c =
    omega (arith, c.requires.i_in_bounds, on-length c.args.cells.now c.on_at-row.ensures, c.write_expr-a.ensures.long)

pub write_expr-m-requires : goal.write_expr-m-requires
write_expr-m-requires c = record { wf = c.on_at-row.ensures.right_node _ c.requires.ok; i_in_bounds = omega (arith, c.requires.i_in_bounds, c.write_expr-a.ensures.long, on-length c.args.cells.now c.on_at-row.ensures) }

pub overflow_add-result : goal.overflow_add-result
overflow_add-result c =
    omega (arith, c.requires.i_in_bounds, on-length c.args.cells.now c.on_at-row.ensures, c.write_expr-a.ensures.long, c.write_expr-m.ensures.long, c.well_formed.1.1.1.0.0)

pub returns : goal.returns
returns c =
    on-wrote _ c.on_at-row.ensures c.write_expr-a.ensures c.write_expr-m.ensures
