-- `lookup::conflicts` meets its contract: the answer so far is that for the fields passed. Assumes nothing.
use Prim.Native.Nat.{◌≤◌}
use Rattle.cpl.specs.Accept.{conflict}
use Rattle.cpl.specs.Tests.{any_b}
use Rattle.lookup.specs.Fields.{pair_of, row_at}
use mathlib.Core.Path.{◌≡◌}
use Rattle.lookup.proofs.conflicts.Given as goal

abbrev pub invariant-loop-i : goal.invariant-loop-i
invariant-loop-i l = (l.i ≤ l.width) × (l.hit ≡ any_b (conflict (pair_of l.f)) (row_at l.fields l.first l.i))
