-- `lookup::mark_row` meets its contract: the names of the fields passed are marked. Assumes nothing.
use Prim.Native.Nat.{◌≤◌}
use Rattle.lookup.specs.Marks.{Marked}
use Rattle.lookup.proofs.mark_row.Given as goal

abbrev pub invariant-loop-i : goal.invariant-loop-i
invariant-loop-i l = (l.i ≤ l.width) × Marked l.seen l.fields l.first l.i
