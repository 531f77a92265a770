-- `projections::all_bare` meets its contract: the items that were passed are bare. Assumes nothing.
use Prim.Native.Nat.{◌-◌}
use Rattle.projections.proofs.Tests.{Bare}
use Rattle.projections.proofs.all_bare.Given as goal

abbrev pub invariant-loop-i : goal.invariant-loop-i
invariant-loop-i l = Bare l.list.rows.now l.list.first l.list.count l.kept l.from

abbrev pub decreases-loop-i : goal.decreases-loop-i
decreases-loop-i l = l.list.count - l.from
