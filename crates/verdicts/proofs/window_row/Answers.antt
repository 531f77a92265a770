-- `verdicts::window_row` meets its contract. Assumes nothing.
use Rattle.verdicts.proofs.Rowed.{all_few, row-over, two-long, two_rowed}
use Rattle.arena.specs.Rows.{pair_at}
use Rattle.lookup.proofs.Lists.{list_length}
use Rattle.tree.specs.Rows.{win_size}
use native.Mathlib.Omega.{arith}
use Rattle.verdicts.proofs.window_row.Goals as goal

pub overflow_add-width : goal.overflow_add-width
overflow_add-width c =
    omega (arith, c.requires.sides_ready.few_left, c.requires.sides_ready.room, all_few c.args.rows.now c.args.first c.args.n c.requires.all_at)

pub returns-then-most-width : goal.returns-then-most-width
returns-then-most-width c =
    row-over c.over_row.ensures (two-long c.args.fields.now c.args.sides.left c.args.sides.lwidth _ (list_length (pair_at c.args.rows.now) (win_size c.args.rows.now) c.args.first c.args.n)) c.if-most-width.true

pub returns : goal.returns
returns c =
    two_rowed c.put_row.ensures c.if-most-width.false c.copy_fields.ensures c.win_pairs.ensures c.requires.sides_ready.clear_left
