-- `writer_parts::write_agg` meets its contract. Assumes nothing.
use native.Mathlib.Omega.{arith}
use Rattle.writer_parts.proofs.Rows.{agg-length, agg-wrote}
use Rattle.writer_parts.proofs.write_agg.Goals as goal

pub put_pair-a-requires : goal.put_pair-a-requires
put_pair-a-requires c =
    omega (arith, c.requires.i_in_bounds, agg-length c.args.cells.now c.agg_at-row.ensures c.requires.agg_ok)

pub put_at-b-requires : goal.put_at-b-requires
put_at-b-requires c =
    omega (arith, c.requires.i_in_bounds, agg-length c.args.cells.now c.agg_at-row.ensures c.requires.agg_ok)

pub slice_bounds-write_call-count : goal.slice_bounds-write_call-count
slice_bounds-write_call-count c =
    omega (arith, c.requires.i_in_bounds, agg-length c.args.cells.now c.agg_at-row.ensures c.requires.agg_ok)

pub slice_bounds-write_call-start : goal.slice_bounds-write_call-start
slice_bounds-write_call-start c =
    omega (arith, c.requires.i_in_bounds, agg-length c.args.cells.now c.agg_at-row.ensures c.requires.agg_ok)

pub write_call-m-requires : goal.write_call-m-requires
write_call-m-requires c = record { wf = c.agg_at-row.ensures.node _ c.requires.agg_ok; root_in_bounds = omega (arith, c.requires.i_in_bounds, agg-length c.args.cells.now c.agg_at-row.ensures c.requires.agg_ok) }

pub overflow_add-result : goal.overflow_add-result
overflow_add-result c =
    omega (arith, c.requires.i_in_bounds, agg-length c.args.cells.now c.agg_at-row.ensures c.requires.agg_ok, c.write_call-m.ensures.long, c.well_formed.1.1.1.0.0)

pub returns : goal.returns
returns c =
    agg-wrote _ c.agg_at-row.ensures c.requires.agg_ok c.from.ensures c.put_pair-a.ensures c.put_at-b.ensures c.write_call-m.ensures
