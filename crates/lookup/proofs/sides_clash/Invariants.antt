-- `lookup::sides_clash` meets its contract: no field of the right side that was passed is in conflict with the left side. Assumes nothing.
use Rattle.cpl.specs.Accept.{conflict}
use Rattle.cpl.specs.Tests.{any_b}
use Rattle.lookup.proofs.Lists.{Missed}
use Rattle.lookup.specs.Fields.{field_at, row_at}
use Rattle.lookup.proofs.sides_clash.Given as goal

abbrev pub invariant-loop-i : goal.invariant-loop-i
invariant-loop-i l = Missed (λ g. any_b (conflict g) (row_at l.fields l.left l.lwidth)) (field_at l.fields) l.right l.width l.i
