-- `writer_parts::write_item` meets its contract. Assumes nothing.
use native.Mathlib.Omega.{arith}
use Rattle.writer_parts.proofs.Rows.{bare-length, bare-wrote, named-length, named-wrote}
use Rattle.arena.proofs.Rows.{read_wf}
use Rattle.writer_parts.proofs.write_item.Goals as goal

pub put_at-a-requires : goal.put_at-a-requires
put_at-a-requires c =
    omega (arith, c.requires.i_in_bounds, bare-length c.args.cells.now c.row_at-row.ensures c.if-row-eq0.true)

pub put_pair-requires : goal.put_pair-requires
put_pair-requires c =
    omega (arith, c.requires.i_in_bounds, bare-length c.args.cells.now c.row_at-row.ensures c.if-row-eq0.true)

pub returns-then-row-eq0 : goal.returns-then-row-eq0
returns-then-row-eq0 c =
    bare-wrote _ c.row_at-row.ensures c.if-row-eq0.true c.put_at-a.ensures c.put_pair.ensures

pub put_at-a-requires-2 : goal.put_at-a-requires-2
put_at-a-requires-2 c =
    omega (arith, c.requires.i_in_bounds, named-length c.args.cells.now c.row_at-row.ensures c.if-row-eq0.false)

pub put_pair-b-requires : goal.put_pair-b-requires
put_pair-b-requires c =
    omega (arith, c.requires.i_in_bounds, named-length c.args.cells.now c.row_at-row.ensures c.if-row-eq0.false)

pub slice_bounds-write_expr-count : goal.slice_bounds-write_expr-count
slice_bounds-write_expr-count c =
    omega (arith, c.requires.i_in_bounds, named-length c.args.cells.now c.row_at-row.ensures c.if-row-eq0.false)

pub slice_bounds-write_expr-start : goal.slice_bounds-write_expr-start
slice_bounds-write_expr-start c =
    omega (arith, c.requires.i_in_bounds, named-length c.args.cells.now c.row_at-row.ensures c.if-row-eq0.false)

pub write_expr-m-requires : goal.write_expr-m-requires
write_expr-m-requires c = record { wf = read_wf _ c.row_at-row.ensures c.requires.row_ok; i_in_bounds = omega (arith, c.requires.i_in_bounds, named-length c.args.cells.now c.row_at-row.ensures c.if-row-eq0.false) }

pub overflow_add-result : goal.overflow_add-result
overflow_add-result c =
    omega (arith, c.requires.i_in_bounds, named-length c.args.cells.now c.row_at-row.ensures c.if-row-eq0.false, c.write_expr-m.ensures.long, c.well_formed.1.1.1.0.0)

pub returns : goal.returns
returns c =
    named-wrote _ c.row_at-row.ensures c.if-row-eq0.false c.put_at-a-2.ensures c.put_pair-b.ensures c.write_expr-m.ensures
