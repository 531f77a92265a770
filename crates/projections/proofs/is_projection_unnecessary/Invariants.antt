-- `projections::is_projection_unnecessary` meets its contract: the fields that were passed are the same. Assumes nothing.
use Prim.Native.Nat.{◌-◌}
use Rattle.projections.proofs.Tests.{Alike}
use Rattle.projections.proofs.is_projection_unnecessary.Given as goal

abbrev pub invariant-loop-i : goal.invariant-loop-i
invariant-loop-i l = Alike l.own.fields.now l.own.first l.own.width l.kept l.input.fields.now l.input.first l.input.width l.input_kept l.from l.at

abbrev pub decreases-loop-i : goal.decreases-loop-i
decreases-loop-i l = l.own.width - l.from
