-- `writer_parts::agg_size` meets its contract. Assumes nothing.
use native.Mathlib.Omega.{arith}
use Rattle.writer_parts.proofs.Rows.{agg-length, agg-tags}
use Rattle.writer_parts.proofs.agg_size.Goals as goal

pub call_size-requires : goal.call_size-requires
call_size-requires c = record { wf = c.agg_at-row.ensures.node _ c.requires.agg_ok; countable = omega (arith, c.requires.countable, agg-length c.args.cells.now c.agg_at-row.ensures c.requires.agg_ok, agg-tags c.args.cells.now c.agg_at-row.ensures c.requires.agg_ok) }

pub add-requires : goal.add-requires
add-requires c =
    omega (arith, c.requires.countable, c.call_size.ensures, agg-length c.args.cells.now c.agg_at-row.ensures c.requires.agg_ok, agg-tags c.args.cells.now c.agg_at-row.ensures c.requires.agg_ok)

pub returns : goal.returns
returns c =
    omega (arith, c.requires.countable, c.add.ensures, c.call_size.ensures, agg-length c.args.cells.now c.agg_at-row.ensures c.requires.agg_ok, agg-tags c.args.cells.now c.agg_at-row.ensures c.requires.agg_ok)
