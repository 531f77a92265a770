-- `writer_parts::write_key` meets its contract. Assumes nothing.
use native.Mathlib.Omega.{arith}
use Rattle.writer_parts.proofs.Rows.{key-length, key-wrote}
use Rattle.writer_parts.proofs.write_key.Goals as goal

pub put_at-a-requires : goal.put_at-a-requires
put_at-a-requires c =
    omega (arith, c.requires.i_in_bounds, key-length c.args.cells.now c.key_at-row.ensures c.requires.key_ok)

pub slice_bounds-write_expr-count : goal.slice_bounds-write_expr-count
slice_bounds-write_expr-count c =
    omega (arith, c.requires.i_in_bounds, key-length c.args.cells.now c.key_at-row.ensures c.requires.key_ok)

pub slice_bounds-write_expr-start : goal.slice_bounds-write_expr-start
slice_bounds-write_expr-start c =
    omega (arith, c.requires.i_in_bounds, key-length c.args.cells.now c.key_at-row.ensures c.requires.key_ok)

pub write_expr-m-requires : goal.write_expr-m-requires
write_expr-m-requires c = record { wf = c.key_at-row.ensures.node _ c.requires.key_ok; i_in_bounds = omega (arith, c.requires.i_in_bounds, key-length c.args.cells.now c.key_at-row.ensures c.requires.key_ok) }

pub overflow_add-result : goal.overflow_add-result
overflow_add-result c =
    omega (arith, c.requires.i_in_bounds, key-length c.args.cells.now c.key_at-row.ensures c.requires.key_ok, c.write_expr-m.ensures.long, c.well_formed.1.1.1.0.0)

pub returns : goal.returns
returns c =
    key-wrote _ c.key_at-row.ensures c.requires.key_ok c.from.ensures c.put_at-a.ensures c.write_expr-m.ensures
