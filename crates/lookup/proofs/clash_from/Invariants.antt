-- `lookup::clash_from` meets its contract: the fields passed do not clash, and their names are marked. Assumes nothing.
use Prim.Native.Nat.{◌≤◌}
use Rattle.cpl.specs.Accept.{clash}
use Rattle.lookup.specs.Fields.{row_at}
use Rattle.lookup.specs.Marks.{Marked}
use mathlib.Core.Bool.{false}
use mathlib.Core.Path.{◌≡◌}
use Rattle.lookup.proofs.clash_from.Given as goal

abbrev pub invariant-loop-i : goal.invariant-loop-i
invariant-loop-i l = (l.i ≤ l.width) × (clash (row_at l.fields l.first l.i) ≡ false) × Marked l.seen l.fields l.first l.i
