-- `lookup::mark_row` meets its contract: the names of the fields passed are marked. Assumes nothing.
use Rattle.lookup.proofs.Marks.{marked_more}
use mathlib.Core.Path.{◌≡◌}
use native.Mathlib.Omega.{arith}
use Rattle.lookup.proofs.mark_row.Goals as goal

pub loop-i-preserved : goal.loop-i-preserved
loop-i-preserved c =
    (omega arith, marked_more c.args.fields.now c.args.first c.loop-i.i c.loop-i.invariant.1 c.field_at-f.ensures c.mark.ensures)

pub returns : goal.returns
returns c =
    let e : c.loop-i.i ≡ c.args.width = omega (arith, c.loop-i.invariant.0) in
    rw e at c.loop-i.invariant.1
