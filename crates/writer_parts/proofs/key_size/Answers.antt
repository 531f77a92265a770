-- `writer_parts::key_size` meets its contract. Assumes nothing.
use native.Mathlib.Omega.{arith}
use Rattle.writer_parts.proofs.Rows.{key-length, key-tags}
use Rattle.writer_parts.proofs.key_size.Goals as goal

pub expr_size-requires : goal.expr_size-requires
expr_size-requires c = record { wf = c.key_at-row.ensures.node _ c.requires.key_ok; countable = omega (arith, c.requires.countable, key-length c.args.cells.now c.key_at-row.ensures c.requires.key_ok, key-tags c.args.cells.now c.key_at-row.ensures c.requires.key_ok) }

pub add-requires : goal.add-requires
add-requires c =
    omega (arith, c.requires.countable, c.expr_size.ensures, key-length c.args.cells.now c.key_at-row.ensures c.requires.key_ok, key-tags c.args.cells.now c.key_at-row.ensures c.requires.key_ok)

pub returns : goal.returns
returns c =
    omega (arith, c.requires.countable, c.add.ensures, c.expr_size.ensures, key-length c.args.cells.now c.key_at-row.ensures c.requires.key_ok, key-tags c.args.cells.now c.key_at-row.ensures c.requires.key_ok)
