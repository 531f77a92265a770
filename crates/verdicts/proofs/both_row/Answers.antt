-- `verdicts::both_row` meets its contract. Assumes nothing.
use Rattle.verdicts.proofs.Rowed.{both_rowed, row-length, row-over, two-long}
use Rattle.lookup.specs.Fields.{right_row}
use Rattle.verdicts.proofs.both_row.Goals as goal

pub returns-then-most-width : goal.returns-then-most-width
returns-then-most-width c =
    row-over c.over_row.ensures (two-long c.args.fields.now c.args.sides.left c.args.sides.lwidth (right_row c.args.fields.now c.args.sides) (row-length c.args.fields.now c.args.sides.right c.args.sides.rwidth)) c.if-most-width.true

pub returns : goal.returns
returns c =
    both_rowed c.args.sides.right c.put_row.ensures c.if-most-width.false c.requires.before_right c.copy_fields.ensures c.copy_fields-2.ensures c.requires.clear_left
